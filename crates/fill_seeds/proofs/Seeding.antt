-- Laws of the seeding: the cells of a row, and all of them. Assumes nothing.
use mathlib.Core.Bool.{false, cond}
use mathlib.Core.Path.{◌≡◌, sym, ap, ◌∙◌}
use mathlib.Core.List.{List}
use Prim.Native.Nat.{ℕ, ◌+◌, ◌-◌, ◌≤◌, ◌<◌, zero-le}
use native.Mathlib.Omega.{arith}
use lib.Dec.{eqb}
use lib.ListN.{length}
use borrow.Author.Tests.{ne_eqb}
use Rattle.grid.specs.declared.Axes.{Axes}
use Rattle.grid.specs.declared.Cell.{Cell}
use Rattle.grid.specs.Grid.{InGrid, num, cells, at, cell_numbered, on_border}
use Rattle.grid.specs.Passes.{becomes, Within}
use Rattle.grid.proofs.Cells.{num_lt, cell_of_number, labels_one}
use Rattle.fill_seeds.specs.Seeds.{seed_of, seeded, seed_at, Alike}

pub within_seeded : (r : Axes) (b : ℕ) (l m : List ℕ) → length l ≡ cells r → b ≡ cells r → Within 0 b (seed_at r) l m → m ≡ seeded r l
within_seeded r b l m e q w =
    labels_one r (seed_of r l) m (w.size ∙ e) (λ c h.
    w.passed (num r c) zero-le (omega (arith, num_lt r c h))
    ∙ ap (λ (d : Cell). cond (on_border r d) (becomes 0 0 1 (at r l c)) (at r l c)) (cell_of_number r c h))

-- ---- the cells of a row along i, whose first cell is (0, j, k)

module _ (r : Axes) (j k first : ℕ) (h : InGrid r (record { i = 0; j = j; k = k })) (e : first ≡ num r (record { i = 0; j = j; k = k })) where
  pub row_cell : (n : ℕ) → first ≤ n → n < first + r.r0 → cell_numbered r n ≡ record { i = n - first; j = j; k = k }
  row_cell n p q =
      let c : Cell = record { i = n - first; j = j; k = k } in
      let is : num r c ≡ n = omega arith in
      ap (cell_numbered r) (sym is) ∙ cell_of_number r c (record { i_in = omega arith; j_in = h.j_in; k_in = h.k_in })

  -- the row's numbers are all below the number of cells
  pub row_fits : first + r.r0 ≤ cells r
  row_fits =
      let last : Cell = record { i = r.r0 - 1; j = j; k = k } in
      omega (arith, num_lt r last (record { i_in = omega (arith, h.i_in); j_in = h.j_in; k_in = h.k_in }), h.i_in)

  -- a cell of the row is like itself
  pub one_alike : (i from : ℕ) → i < r.r0 → from ≡ first + i → Alike r (record { i = i; j = j; k = k }) from (from + 1)
  one_alike i from g q n a b =
      let is : n - first ≡ i = omega arith in
      ap (on_border r) (row_cell n (omega arith) (omega arith) ∙ ap (λ (x : ℕ). record { i = x; j = j; k = k }) is)

  -- the cells between the first and the last of a row are alike
  pub between_alike : Alike r (record { i = 1; j = j; k = k }) (first + 1) (first + r.r0 - 1)
  between_alike n p q =
      let is = row_cell n (omega arith) (omega arith) in
      let low : eqb (n - first) 0 ≡ false = ne_eqb (n - first) 0 (omega arith) in
      let high : eqb (r.r0 - (n - first)) 1 ≡ false = ne_eqb (r.r0 - (n - first)) 1 (omega arith) in
      let one : eqb (r.r0 - 1) 1 ≡ false = ne_eqb (r.r0 - 1) 1 (omega arith) in
      ap (on_border r) is ∙ rw (low, high, one)
