-- What the calls behind a summary answer where nothing is at fault. Assumes nothing.
use Rattle.std.specs.Prelude.{Ok, Err}
use mathlib.Core.Bool.{Bool, true, false, not, ◌||◌}
use mathlib.Core.List.{List}
use mathlib.Core.Path.{◌≡◌, refl, sym, ap, ◌∙◌, subst}
use Prim.Native.Nat.{ℕ, ◌*◌, ◌/◌, ◌%◌, ◌≤◌, ◌<◌}
use native.Mathlib.Omega.{arith}
use lib.Ieee.{Float}
use lib.ListN.{length, take}
use lib.Seq.{length-take-le}
use borrow.Author.Tests.{eq-eqb, le-ltb}
use Rattle.grid.specs.declared.Axes.{Axes}
use Rattle.grid.specs.declared.Placement.{Placement}
use Rattle.grid.specs.declared.Refusal.{Refusal}
use Rattle.grid.specs.Answers.{Outcome, ◌and_then◌, lent_after, Ends, Checked}
use Rattle.grid.specs.Checks.{takes}
use Rattle.grid.specs.Grid.{Sound, cells, cell_numbered}
use Rattle.grid.proofs.Cells.{ones_at, labels_length}
use Rattle.grid.proofs.Checks.{fault_not, both_fine, answered, fine_map}
use Rattle.sizing.specs.Points.{length_fault, none_fault, numbers_fault}
use Rattle.sizing.specs.Sizing.{Laid, points}
use Rattle.sizing.proofs.Ranges.{size_answer, resolution_answer}
use Rattle.marking_mesh.specs.Faults.{missing_fault, mesh_fault}
use Rattle.marking_laid.proofs.Lent.{size_mesh, resolution_mesh}
use Rattle.marking.specs.Marked.{is_surface, mark_label, marked_labels, mark_answer, mark_labels}
use Rattle.marking.proofs.Laws.{ready}
use Rattle.fill.specs.Modes.{marks, fill_fault}
use Rattle.program_reader.specs.declared.SizingWay.{SizingWay}
use Rattle.program_reader.specs.declared.SizingWay.TheVariants.{Size, Resolution}
use Rattle.program_summary.specs.Summary.{stream_fault, sized_by, laid_of}
use Rattle.grid.specs.declared.Reason.TheVariants.{BadCount}

-- three numbers of each of at most 256
pub three_each : {A : Type 0} (n : ℕ) (xs : List A) → n ≤ 256 → length xs ≡ 768 → length (take (3 * n) xs) ≡ 3 * n
three_each n xs h e = length-take-le (3 * n) xs (omega arith)

pub threes_fine : (n : ℕ) → n ≤ 256 → length_fault (3 * n) ≡ Ok tt
threes_fine n h =
    sym (fault_not _ BadCount 0 (Ok tt) (λ i. not (eq-eqb (3 * n % 3) 0 (omega arith) i) || le-ltb 65536 (3 * n / 3) (omega arith) i))

-- an input that was sized: its grid is sound, and its mesh has no fault on it
pub own_mesh : (way : SizingWay) (ps : List Float) (ts : List ℕ) (l : Laid) → laid_of way ps ts ≡ Ok l → length_fault (length ts) ≡ Ok tt
    → Sound l.axes × (mesh_fault ps ts l.axes l.placement (cells l.axes) ≡ Ok tt)
own_mesh way ps ts l h few = go way w.1
  where
    w : (stream_fault ps ts ≡ Ok tt) × (sized_by way ps ≡ Ok l)
    w = answered (stream_fault ps ts) (sized_by way ps) l h

    named : missing_fault (points ps) ts ≡ Ok tt
    named =
        (both_fine (numbers_fault 0 ps) (missing_fault (points ps) ts)
        (both_fine (none_fault (length ps)) (numbers_fault 0 ps and_then missing_fault (points ps) ts) w.0).1).1

    go : (way : SizingWay) → sized_by way ps ≡ Ok l → Sound l.axes × (mesh_fault ps ts l.axes l.placement (cells l.axes) ≡ Ok tt)
    go (Size size) e = ((size_answer ps size l e).0.sound, size_mesh ps size l e ts few named)
    go (Resolution r) e = ((resolution_answer ps r l e).sound, resolution_mesh ps r l e ts few named)

no_answer : {A : Type 0} (a : A) (f : Refusal) → ◌≡◌ {A = Outcome A} (Err f) (Ok a) → ⊥
no_answer a f h = let z : ◌≡◌ {A = ℕ} 0 1 = cc in omega arith

-- a call that goes by a relation, where the checks find nothing
pub ends_fine : {A B : Type 0} (f : Checked) (before : B) (Allows : A → B → Type 0) (o : Outcome A) (after : B) → f ≡ Ok tt → Ends f before Allows o after → Ends (Ok tt) before Allows o after
ends_fine f before Allows o after e h = subst (λ (x : Checked). Ends x before Allows o after) e h

module _ (ps : List Float) (ts : List ℕ) (r : Axes) (p : Placement) (l : List ℕ) (h : mesh_fault ps ts r p (length l) ≡ Ok tt) where
  -- a mesh without fault is marked
  pub never_refused : (g : Refusal) → Err g ≡ mark_answer ps ts r p l → ⊥
  never_refused g e = no_answer tt g (e ∙ ap (λ (f : Checked). (f and_then Ok tt)) h)

  pub is_marked : mark_labels ps ts r p l ≡ marked_labels ps ts r p
  is_marked = ap (λ (f : Checked). lent_after f l (marked_labels ps ts r p)) h

  -- and a fill takes the marks
  pub marks_fine : fill_fault r (marked_labels ps ts r p) ≡ Ok tt
  marks_fine =
      let w = ready ps ts r p (length l) h in
      let e = labels_length r (λ c. mark_label (is_surface ps ts r p c)) in
      fine_map marks r (marked_labels ps ts r p) (record { sound = w.1; size = e })
      (λ n k.
      ap (takes marks) (ones_at (cells r) (λ m. mark_label (is_surface ps ts r p (cell_numbered r m))) n (subst (λ (i : ℕ). n < i) e k))
      ∙ taken (is_surface ps ts r p (cell_numbered r n)))
    where
      taken : (b : Bool) → takes marks (mark_label b) ≡ true
      taken true = refl
      taken false = refl
