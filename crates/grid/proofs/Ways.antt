-- Laws of specs/Ways.antt: a neighbour is a cell of the grid, shares a face and has a number one stride on; the way back leads back; every face is one of the six ways. Assumes nothing.
use mathlib.Core.Logic.{inl, inr}
use mathlib.Core.Path.{◌≡◌, refl, sym, ap, ◌∙◌}
use Prim.Native.Nat.{ℕ, suc, ◌+◌, ◌*◌, ◌-◌, ◌<◌}
use native.Mathlib.Nat.{suc-mul, add-mul}
use native.Mathlib.Omega.{arith}
use Rattle.grid.specs.declared.Axes.{Axes}
use Rattle.grid.specs.declared.Cell.{Cell}
use Rattle.grid.specs.Grid.{num, InGrid, along_i, along_j, along_k, Face, Border, first_i, first_j, first_k, last_i, last_j, last_k}
use Rattle.grid.specs.Ways.{Way, up_k, down_k, up_j, down_j, up_i, down_i, room, beside, counter}
use Rattle.grid.proofs.Cells.{cell_path}

-- what a step adds to a cell's number, and what it takes away
abbrev pub adds : Axes → Way → ℕ
adds r up_k = r.r0 * r.r1
adds r down_k = 0
adds r up_j = r.r0
adds r down_j = 0
adds r up_i = 1
adds r down_i = 0

abbrev pub takes_off : Axes → Way → ℕ
takes_off r up_k = 0
takes_off r down_k = r.r0 * r.r1
takes_off r up_j = 0
takes_off r down_j = r.r0
takes_off r up_i = 0
takes_off r down_i = 1

more_mul : (a n : ℕ) → (a + 1) * n ≡ a * n + n
more_mul a n = add-mul a 1 n ∙ omega arith

less_mul : (a n : ℕ) → 0 < a → (a - 1) * n + n ≡ a * n
less_mul a n h = sym (suc-mul (a - 1) n) ∙ ap (λ (t : ℕ). t * n) (back a h)
  where
    back : (a : ℕ) → 0 < a → suc (a - 1) ≡ a
    back a h = omega arith

module _ (r : Axes) (c : Cell) where
  pub beside_in : (w : Way) → InGrid r c → 0 < room r w c → InGrid r (beside w c)
  beside_in up_k h g = record { i_in = h.i_in; j_in = h.j_in; k_in = omega arith }
  beside_in down_k h g = record { i_in = h.i_in; j_in = h.j_in; k_in = omega (arith, h.k_in) }
  beside_in up_j h g = record { i_in = h.i_in; j_in = omega arith; k_in = h.k_in }
  beside_in down_j h g = record { i_in = h.i_in; j_in = omega (arith, h.j_in); k_in = h.k_in }
  beside_in up_i h g = record { i_in = omega arith; j_in = h.j_in; k_in = h.k_in }
  beside_in down_i h g = record { i_in = omega (arith, h.i_in); j_in = h.j_in; k_in = h.k_in }

  pub beside_face : (w : Way) → 0 < room r w c → Face c (beside w c)
  beside_face up_k g = inl (along_k refl refl refl)
  beside_face down_k g = inr (along_k refl refl (omega arith))
  beside_face up_j g = inl (along_j refl refl refl)
  beside_face down_j g = inr (along_j refl (omega arith) refl)
  beside_face up_i g = inl (along_i refl refl refl)
  beside_face down_i g = inr (along_i (omega arith) refl refl)

  pub beside_num : (w : Way) → 0 < room r w c → num r (beside w c) ≡ num r c + adds r w - takes_off r w
  beside_num up_k g = omega (arith, more_mul c.k (r.r0 * r.r1))
  beside_num down_k g = omega (arith, less_mul c.k (r.r0 * r.r1) g)
  beside_num up_j g = omega (arith, more_mul c.j r.r0)
  beside_num down_j g = omega (arith, less_mul c.j r.r0 g)
  beside_num up_i g = omega arith
  beside_num down_i g = omega arith

  -- one cell less that way
  pub beside_room : (w : Way) → 0 < room r w c → room r w (beside w c) ≡ room r w c - 1
  beside_room up_k g = omega arith
  beside_room down_k g = refl
  beside_room up_j g = omega arith
  beside_room down_j g = refl
  beside_room up_i g = omega arith
  beside_room down_i g = refl

  -- at the edge a cell is on the border
  pub edge_border : (w : Way) → InGrid r c → room r w c ≡ 0 → Border r c
  edge_border up_k h e = last_k (omega (arith, h.k_in))
  edge_border down_k h e = first_k e
  edge_border up_j h e = last_j (omega (arith, h.j_in))
  edge_border down_j h e = first_j e
  edge_border up_i h e = last_i (omega (arith, h.i_in))
  edge_border down_i h e = first_i e

  -- the way back has room, and leads back
  pub counter_room : (w : Way) → InGrid r c → 0 < room r w c → 0 < room r (counter w) (beside w c)
  counter_room up_k h g = omega arith
  counter_room down_k h g = omega (arith, h.k_in)
  counter_room up_j h g = omega arith
  counter_room down_j h g = omega (arith, h.j_in)
  counter_room up_i h g = omega arith
  counter_room down_i h g = omega (arith, h.i_in)

  pub counter_beside : (w : Way) → 0 < room r w c → beside (counter w) (beside w c) ≡ c
  counter_beside up_k g = cell_path _ c refl refl (omega arith)
  counter_beside down_k g = cell_path _ c refl refl (omega arith)
  counter_beside up_j g = cell_path _ c refl (omega arith) refl
  counter_beside down_j g = cell_path _ c refl (omega arith) refl
  counter_beside up_i g = cell_path _ c (omega arith) refl refl
  counter_beside down_i g = cell_path _ c (omega arith) refl refl

  -- a cell of the grid that shares a face is the neighbour one of the ways
  pub face_way : (d : Cell) → InGrid r d → Face c d → (w : Way) × (0 < room r w c) × (d ≡ beside w c)
  face_way d h (inl (along_i p q s)) = (up_i, omega (arith, h.i_in), cell_path d (beside up_i c) p q s)
  face_way d h (inl (along_j p q s)) = (up_j, omega (arith, h.j_in), cell_path d (beside up_j c) p q s)
  face_way d h (inl (along_k p q s)) = (up_k, omega (arith, h.k_in), cell_path d (beside up_k c) p q s)
  face_way d h (inr (along_i p q s)) = (down_i, omega arith, cell_path d (beside down_i c) (omega arith) (sym q) (sym s))
  face_way d h (inr (along_j p q s)) = (down_j, omega arith, cell_path d (beside down_j c) (sym p) (omega arith) (sym s))
  face_way d h (inr (along_k p q s)) = (down_k, omega arith, cell_path d (beside down_k c) (sym p) (sym q) (omega arith))
