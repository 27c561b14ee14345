-- What the contract of `boxes` says: its numbers, that a refusal writes nothing, that two results coincide, its tables, how many numbers the lists have and which each is. Assumes nothing.
use Rattle.grid.specs.declared.Refusal.{Refusal}
use Rattle.std.specs.Prelude.{Ok, Err}
use mathlib.Core.Bool.{false, not, ◌&&◌}
use mathlib.Core.Path.{◌≡◌, refl, sym, ap, ◌∙◌}
use mathlib.Core.List.{List, [], ◌∷◌}
use Prim.Native.Nat.{ℕ, zero, suc, ◌+◌, ◌*◌, ◌≤◌, ◌<◌}
use native.Mathlib.Omega.{arith}
use lib.Dec.{eqb, ltb}
use lib.IntN.{pos}
use lib.ListN.{length, get_or, length-append}
use lib.Seq.{get_or-append-add}
use lib.Ieee.{Float, nan, fin, binary32, le, eq, div}
use Rattle.grid.specs.declared.Axes.{Axes}
use Rattle.grid.specs.declared.Cell.{Cell}
use Rattle.grid.specs.declared.Placement.{Placement}
use Rattle.grid.specs.Answers.{Outcome, Finds, Gives}
use Rattle.grid.specs.Counts.{count_of}
use Rattle.grid.specs.Grid.{cells}
use Rattle.grid.specs.Checks.{grid_fault, takes}
use Rattle.grid.proofs.Checks.{finds_if, finds_then, finds_first, finds_grid, gives_then}
use Rattle.sizing.specs.Points.{bounded}
use Rattle.marking_mesh.specs.Faults.{origin_fault, least_scale, greatest_scale, lent_fault}
use Rattle.order.specs.Order.{known_labels}
use Rattle.order.specs.Output.{room_fault, over}
use Rattle.order.proofs.Lists.{join_length}
use Rattle.grid.proofs.Checks as check
use Rattle.order.proofs.Outputs.{append_left, finds_room}
use Rattle.order.proofs.Sums.{kept_count}
use Rattle.boxes.specs.Boxes.{corners, corner_of, cell_corners, faces, face_of, cell_triangles, box_cells, box_count, box_points, box_triangles, asked_fault, boxes_fault, rooms_fault, all_fault, boxes_answer, points_buffer, triangles_buffer}
use Rattle.boxes_corners.proofs.Rows.{join_at}
use Rattle.boxes_corners.proofs.Tables.{eight_corners, twelve_faces, corner_row, face_row, face_corner, corner_length, face_length}
use Rattle.grid.specs.declared.Reason.TheVariants.{BadSize, BadLabel, BadNumber}

-- ---- the tables

-- eight corners of three numbers, twelve triangles of three, and each names corners of its own box
pub tables :
    (length corners ≡ 8)
    × ((v : ℕ) → v < 8 → length (get_or corners v []) ≡ 3)
    × (length faces ≡ 12)
    × ((t : ℕ) → t < 12 → length (get_or faces t []) ≡ 3)
    × ((t x : ℕ) → t < 12 → x < 3 → get_or (get_or faces t []) x 0 < 8)
tables = (eight_corners, corner_row, twelve_faces, face_row, λ t x h g. face_corner t x)

-- ---- how many numbers there are

-- 24 for a box's corners, 36 for its triangles
pub cell_points : (p : Placement) (c : Cell) → length (cell_corners p c) ≡ 24
cell_points p c = omega (arith, join_length (corner_of p c) 3 (corner_length p c) corners, eight_corners)

pub cell_numbers : (base : ℕ) → length (cell_triangles base) ≡ 36
cell_numbers base = omega (arith, join_length (face_of base) 3 (face_length base) faces, twelve_faces)

pub points_length : (p : Placement) (cs : List Cell) → length (box_points p cs) ≡ 24 * length cs
points_length p cs = join_length (cell_corners p) 24 (cell_points p) cs

pub triangles_length : (m n : ℕ) → length (box_triangles m n) ≡ 36 * n
unfolding box_triangles
triangles_length m zero = refl
triangles_length m (suc n) = omega (arith, length-append (cell_triangles (8 * m)) (box_triangles (m + 1) n), cell_numbers (8 * m), triangles_length (m + 1) n)

-- the cells that have the label are as many as the labels
pub box_count_lem : (l : List ℕ) (r : Axes) (label : ℕ) → length l ≡ cells r → box_count l r label ≡ count_of label l
box_count_lem l r label e = kept_count r l (λ v. eqb v label) e

-- ---- which numbers they are

-- number x of corner v of box b
pub corner_number : (p : Placement) (cs : List Cell) (c₀ : Cell) (b v x : ℕ) → b < length cs → v < 8 → x < 3
    → get_or (box_points p cs) (24 * b + (3 * v + x)) nan ≡ get_or (corner_of p (get_or cs b c₀) (get_or corners v [])) x nan
corner_number p cs c₀ b v x h g k =
    let c = get_or cs b c₀ in
    join_at (cell_corners p) 24 (cell_points p) nan c₀ cs b (3 * v + x) h (omega arith)
    ∙ join_at (corner_of p c) 3 (corner_length p c) nan [] corners v x (omega (arith, eight_corners)) k

-- number i of the triangles of box b
box_triangles_at : (m n b i : ℕ) → b < n → i < 36 → get_or (box_triangles m n) (36 * b + i) 0 ≡ get_or (cell_triangles (8 * (m + b))) i 0
unfolding box_triangles
box_triangles_at m zero b i h g = absurd (omega arith)
box_triangles_at m (suc n) zero i h g =
    ap (λ (k : ℕ). get_or (box_triangles m (suc n)) k 0) (let e : 36 * 0 + i ≡ i = omega arith in e)
    ∙ append_left 0 (cell_triangles (8 * m)) (box_triangles (m + 1) n) i (omega (arith, cell_numbers (8 * m)))
    ∙ ap (λ (k : ℕ). get_or (cell_triangles (8 * k)) i 0) (let e : m ≡ m + 0 = omega arith in e)
box_triangles_at m (suc n) (suc b) i h g =
    ap (λ (k : ℕ). get_or (box_triangles m (suc n)) k 0) (let e : 36 * suc b + i ≡ length (cell_triangles (8 * m)) + (36 * b + i) = omega (arith, cell_numbers (8 * m)) in e)
    ∙ get_or-append-add (cell_triangles (8 * m)) (box_triangles (m + 1) n) (36 * b + i) 0
    ∙ box_triangles_at (m + 1) n b i (omega arith) g
    ∙ ap (λ (k : ℕ). get_or (cell_triangles (8 * k)) i 0) (let e : m + 1 + b ≡ m + suc b = omega arith in e)

face_number : (base : ℕ) (t : List ℕ) (x : ℕ) → x < 3 → get_or (face_of base t) x 0 ≡ base + get_or t x 0
unfolding face_of
face_number base t zero h = refl
face_number base t (suc zero) h = refl
face_number base t (suc (suc zero)) h = refl
face_number base t (suc (suc (suc x))) h = absurd (omega arith)

module _ (n b t x : ℕ) (h : b < n) (g : t < 12) (k : x < 3) where
  -- the point that corner x of triangle t of box b names
  pub triangle_corner : get_or (box_triangles 0 n) (36 * b + (3 * t + x)) 0 ≡ 8 * b + get_or (get_or faces t []) x 0
  triangle_corner =
      box_triangles_at 0 n b (3 * t + x) h (omega arith)
      ∙ ap (λ (m : ℕ). get_or (cell_triangles (8 * m)) (3 * t + x) 0) (let e : 0 + b ≡ b = omega arith in e)
      ∙ join_at (face_of (8 * b)) 3 (face_length (8 * b)) 0 [] faces t x (omega (arith, twelve_faces)) k
      ∙ face_number (8 * b) (get_or faces t []) x k

  -- is one of the eight of box b
  pub triangle_own : (8 * b ≤ get_or (box_triangles 0 n) (36 * b + (3 * t + x)) 0) × (get_or (box_triangles 0 n) (36 * b + (3 * t + x)) 0 < 8 * b + 8)
  triangle_own = (omega (arith, triangle_corner), omega (arith, triangle_corner, face_corner t x))

-- ---- a call

-- a result of these lent buffers that meets the contract: an answer, the points and the triangles
abbrev pub Meets : List ℕ → Axes → Placement → ℕ → List Float → List ℕ → Outcome ℕ → List Float → List ℕ → Type 0
Meets l r p label ps ts o ps' ts' = (o ≡ boxes_answer l r p label ps ts) × ((ps' ≡ points_buffer l r p label ps ts) × (ts' ≡ triangles_buffer l r p label ps ts))

module _ (l : List ℕ) (r : Axes) (p : Placement) (label : ℕ) (ps : List Float) (ts : List ℕ) where
  -- the numbers that it gives
  pub boxes_numbers : Gives (3 ∷ 5 ∷ 8 ∷ 9 ∷ 11 ∷ 14 ∷ []) (boxes_answer l r p label ps ts)
  boxes_numbers = gives_then ns (all_fault l r p label (length ps) (length ts)) (Ok (box_count l r label)) (finds_then ns (boxes_fault l r p label) _ map rooms) (λ f. tt)
    where
      ns : List ℕ
      ns = 3 ∷ 5 ∷ 8 ∷ 9 ∷ 11 ∷ 14 ∷ []

      map : Finds ns (boxes_fault l r p label)
      map =
          finds_then ns (origin_fault p) _ (finds_first ns BadNumber (λ n. 0 + n) (bounded 20) (p.x ∷ p.y ∷ p.z ∷ []) tt)
          (finds_then ns (lent_fault p) _
          (finds_if ns (not (le least_scale p.scale && le p.scale greatest_scale && eq p.reciprocal (div binary32 (fin false 1 (pos 0)) p.scale))) BadSize 0 (Ok tt) tt tt)
          (finds_then ns (grid_fault r (length l)) _ (finds_grid ns r (length l) tt tt)
          (finds_then ns (asked_fault label) _ (finds_if ns (ltb 8 label) BadLabel 0 (Ok tt) tt tt)
          (finds_first ns BadLabel (λ n. n) (takes known_labels) l tt))))

      rooms : Finds ns (rooms_fault (box_count l r label) (length ps) (length ts))
      rooms = finds_then ns (room_fault (length ps) (24 * box_count l r label)) _ (finds_room ns (length ps) (24 * box_count l r label) tt) (finds_room ns (length ts) (36 * box_count l r label) tt)

  -- a refusal leaves both outputs
  pub refused_same : (f : Refusal) → boxes_answer l r p label ps ts ≡ Err f → (points_buffer l r p label ps ts ≡ ps) × (triangles_buffer l r p label ps ts ≡ ts)
  refused_same f h =
      let checks = all_fault l r p label (length ps) (length ts) in
      (check.refused_same checks (box_count l r label) f ps (over (box_points p (box_cells r l label)) ps) h, check.refused_same checks (box_count l r label) f ts (over (box_triangles 0 (box_count l r label)) ts) h)

  -- two results that meet it are one
  pub settled : (a b : Outcome ℕ) (ps' ps'' : List Float) (ts' ts'' : List ℕ) → Meets l r p label ps ts a ps' ts' → Meets l r p label ps ts b ps'' ts'' → (a ≡ b) × (ps' ≡ ps'') × (ts' ≡ ts'')
  settled a b ps' ps'' ts' ts'' u v = ((u.0 ∙ sym v.0), u.1.0 ∙ sym v.1.0, u.1.1 ∙ sym v.1.1)
