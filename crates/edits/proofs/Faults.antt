-- What an edit's checks leave: a map of labels 6, 7 and 8, a cell of it, and the right kind of cell. Assumes nothing.
use Rattle.std.specs.Prelude.{Ok}
use mathlib.Core.Bool.{Bool, true, false, not}
use mathlib.Core.Logic.{◌⊎◌, inl, inr, ⊎_elim, ◌↔◌}
use mathlib.Core.Path.{◌≡◌, sym, ap, subst}
use mathlib.Core.List.{List, [], ◌∷◌}
use Prim.Native.Nat.{ℕ, ◌<◌, ◌≤◌}
use native.Mathlib.Omega.{arith}
use lib.Dec.{eqb}
use borrow.Author.Tests.{eqb-true, eqb-false, eq-eqb, ne_eqb, not-false}
use Rattle.grid.specs.declared.Axes.{Axes}
use Rattle.grid.specs.declared.Cell.{Cell}
use Rattle.grid.specs.Answers.{◌and_then◌, fault_if, Finds}
use Rattle.grid.specs.Checks.{takes, map_fault}
use Rattle.grid.specs.Grid.{num, InGrid, at, Sheet}
use Rattle.grid.proofs.Cells.{dec_eq, num_lt}
use Rattle.grid.proofs.Checks.{both_fine, passed, taken_means, map_fine, finds_map, finds_if, finds_then}
use Rattle.edits_checks.proofs.Laws.{in_grid_lem}
use Rattle.edits.specs.Edits.{Edit, opening, closing, map_labels, in_grid, wrong_kind, cell_fault, edit_fault}
use Rattle.edits_settle.specs.Closing.{Map}
use Rattle.grid.specs.declared.Reason.TheVariants.{WrongKind, OutOfRange}

takes_three : (v : ℕ) → takes map_labels v ≡ true → (v ≡ 6) ⊎ ((v ≡ 7) ⊎ (v ≡ 8))
takes_three v h = ⊎_elim (λ e. of e.0 e.1) (λ e. of e.0 e.1) (taken_means map_labels v h)
  where
    of : 6 ≤ v → v ≤ 8 → (v ≡ 6) ⊎ ((v ≡ 7) ⊎ (v ≡ 8))
    of p q = dec_eq v 6 (λ e. inl e) (λ z. dec_eq v 7 (λ e. inr (inl e)) (λ y. inr (inr (omega arith))))

-- where an edit is not refused
pub record Sound (r : Axes) (l : List ℕ) (c : Cell) (surface : Bool) : Type 0 where
  pub sheet : Sheet r l
  pub map : Map r l
  pub within : InGrid r c
  pub kind : wrong_kind surface (at r l c) ≡ false

pub edit_sound : (r : Axes) (l : List ℕ) (c : Cell) (surface : Bool) → (map_fault map_labels r l and_then cell_fault r l c surface) ≡ Ok tt → Sound r l c surface
edit_sound r l c surface h =
    let e = both_fine (map_fault map_labels r l) (cell_fault r l c surface) h in
    let m = map_fine map_labels r l e.0 in
    let f = passed (not (in_grid r c)) OutOfRange 0 (fault_if (wrong_kind surface (at r l c)) WrongKind 0 (Ok tt)) e.1 in
    record {
      sheet = m.0;
      map = λ d g. takes_three (at r l d) (m.1 (num r d) (subst (λ (n : ℕ). num r d < n) (sym m.0.size) (num_lt r d g)));
      within = (in_grid_lem r c).0 (not-false (in_grid r c) f.0);
      kind = (passed (wrong_kind surface (at r l c)) WrongKind 0 (Ok tt) f.1).0;
    }

-- 13 exactly for an opening of a cell that is no surface, and for a closing of one that is
pub is_surface_lem : (v : ℕ) → (wrong_kind true v ≡ false) ↔ (v ≡ 8)
is_surface_lem v = ((λ h. eqb-true v 8 (not-false (eqb v 8) h)), λ e. ap not (eq-eqb v 8 e))

pub no_surface : (v : ℕ) → (wrong_kind false v ≡ false) ↔ (v ≡ 8 → ⊥)
no_surface v = (eqb-false v 8, ne_eqb v 8)

-- which numbers the calls give: 8, 9, 11, 12 and 13
pub edit_finds : (r : Axes) (l : List ℕ) (e : Edit) → Finds (8 ∷ 9 ∷ 11 ∷ 12 ∷ 13 ∷ []) (edit_fault r l e)
edit_finds r l e = of e
  where
    ns : List ℕ
    ns = 8 ∷ 9 ∷ 11 ∷ 12 ∷ 13 ∷ []

    cell : (c : Cell) (surface : Bool) → Finds ns (cell_fault r l c surface)
    cell c surface = finds_if ns (not (in_grid r c)) OutOfRange 0 (fault_if (wrong_kind surface (at r l c)) WrongKind 0 (Ok tt)) tt (finds_if ns (wrong_kind surface (at r l c)) WrongKind 0 (Ok tt) tt tt)

    of : (e : Edit) → Finds ns (edit_fault r l e)
    of (opening c) = finds_then ns (map_fault map_labels r l) (cell_fault r l c true) (finds_map ns map_labels r l tt tt tt) (cell c true)
    of (closing c) = finds_then ns (map_fault map_labels r l) (cell_fault r l c false) (finds_map ns map_labels r l tt tt tt) (cell c false)
