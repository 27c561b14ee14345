-- What `boxes` goes by: what its checks leave, and that each of its two ways meets the contract. Assumes nothing.
use Rattle.std.specs.Prelude.{Ok, Err}
use mathlib.Core.Path.{◌≡◌, ap, ◌∙◌}
use mathlib.Core.List.{List}
use Prim.Native.Nat.{ℕ, ◌*◌, ◌≤◌}
use native.Mathlib.Omega.{arith}
use lib.ListN.{length}
use lib.Ieee.{Float, nan}
use Rattle.grid.specs.declared.Axes.{Axes}
use Rattle.grid.specs.declared.Placement.{Placement}
use Rattle.grid.specs.declared.Refusal.{Refusal}
use Rattle.grid.specs.Answers.{Checked}
use Rattle.grid.specs.Grid.{Sheet}
use Rattle.grid.specs.Checks.{grid_fault}
use Rattle.grid.proofs.Checks.{both_fine, sheet_fine}
use Rattle.marking_mesh.specs.Faults.{origin_fault, lent_fault}
use Rattle.order.specs.Output.{room_fault, over, Written}
use Rattle.order.proofs.Lent.{refused_answer, refused_lent, fine_answer, fine_lent}
use Rattle.order.proofs.Outputs.{written_over, room_fine}
use Rattle.boxes.specs.Boxes.{box_cells, box_count, box_points, box_triangles, boxes_fault, rooms_fault, all_fault}
use Rattle.boxes.proofs.Laws.{Meets, points_length, triangles_length}

-- ---- what the checks leave

-- a label for each cell of a sound grid
pub sheet_left : (l : List ℕ) (r : Axes) (p : Placement) (label : ℕ) → boxes_fault l r p label ≡ Ok tt → Sheet r l
sheet_left l r p label h =
    let from-5 = (both_fine (origin_fault p) _ h).1 in
    let from-8 = (both_fine (lent_fault p) _ from-5).1 in
    sheet_fine r l (both_fine (grid_fault r (length l)) _ from-8).0

-- room for n boxes
pub room_left : (n p t : ℕ) → rooms_fault n p t ≡ Ok tt → (24 * n ≤ p) × (36 * n ≤ t)
room_left n p t h =
    let both = both_fine (room_fault p (24 * n)) (room_fault t (36 * n)) h in
    (room_fine p (24 * n) both.0, room_fine t (36 * n) both.1)

-- ---- the two ways of a call

module _ (l : List ℕ) (r : Axes) (p : Placement) (label : ℕ) (ps : List Float) (ts : List ℕ) where
  -- all checks, and what is written
  abbrev checks : Checked
  checks = all_fault l r p label (length ps) (length ts)

  abbrev points : List Float
  points = box_points p (box_cells r l label)

  abbrev triangles : List ℕ
  triangles = box_triangles 0 (box_count l r label)

  pub refused_meets : (f : Refusal) → Err f ≡ checks → Meets l r p label ps ts (Err f) ps ts
  refused_meets f e = (refused_answer checks f (Ok (box_count l r label)) e, (refused_lent checks f ps (over points ps) e, refused_lent checks f ts (over triangles ts) e))

  pub boxed_meets : (n : ℕ) (ps' : List Float) (ts' : List ℕ) → checks ≡ Ok tt → n ≡ box_count l r label → (24 * n ≤ length ps) × (36 * n ≤ length ts)
      → Written nan 0 points ps ps' × Written 0 0 triangles ts ts' → Meets l r p label ps ts (Ok n) ps' ts'
  boxed_meets n ps' ts' e is h w = (
    ap Ok is ∙ fine_answer checks (Ok (box_count l r label)) e,
    (
      written_over nan points ps ps' (omega (arith, points_length p (box_cells r l label), h.0)) w.0 ∙ fine_lent checks ps (over points ps) e,
      written_over 0 triangles ts ts' (omega (arith, triangles_length 0 (box_count l r label), h.1)) w.1 ∙ fine_lent checks ts (over triangles ts) e,
    ),
  )
