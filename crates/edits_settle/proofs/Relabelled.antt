-- How many labels have a value, by what they changed into. Assumes nothing.
use mathlib.Core.Bool.{Bool, cond}
use mathlib.Core.Logic.{◌⊎◌, ⊎_elim}
use mathlib.Core.Path.{◌≡◌, refl, sym, ap, subst, ◌∙◌}
use mathlib.Core.List.{List, [], ◌∷◌}
use Prim.Native.Nat.{ℕ, suc, ◌+◌, ◌<◌}
use native.Mathlib.Omega.{arith}
use lib.Dec.{eqb}
use lib.ListN.{length, get_or}
use borrow.Author.Tests.{eq-eqb, ne_eqb}
use Rattle.grid.specs.declared.Axes.{Axes}
use Rattle.grid.specs.declared.Cell.{Cell}
use Rattle.grid.specs.Counts.{count, count_of}
use Rattle.grid.specs.Grid.{cells, cell_numbered, InGrid, at}
use Rattle.grid.proofs.Cells.{dec_eq, number_of_cell, cell_in}

-- what holds of each cell's labels holds at each place
pub by_place : (r : Axes) (m f : List ℕ) (P : ℕ → ℕ → Type 0) → length m ≡ cells r → ((x : Cell) → InGrid r x → P (at r m x) (at r f x)) → (i : ℕ) → i < length m → P (get_or m i 0) (get_or f i 0)
by_place r m f P e h i g = subst (λ (t : ℕ). P (get_or m t 0) (get_or f t 0)) (number_of_cell r i) (h (cell_numbered r i) (cell_in r i (omega (arith, e))))

-- 1 where two labels are the same
abbrev pub equal : ℕ → ℕ → ℕ
equal x y = cond (eqb x y) 1 0

pub is_one : (x v : ℕ) → x ≡ v → equal x v ≡ 1
is_one x v e = ap {B = ℕ} (λ (b : Bool). cond b 1 0) (eq-eqb x v e)

pub not_one : (x v : ℕ) → (x ≡ v → ⊥) → equal x v ≡ 0
not_one x v z = ap {B = ℕ} (λ (b : Bool). cond b 1 0) (ne_eqb x v z)

-- where none becomes v or was it, their number stays
pub count_kept : (v : ℕ) (m f : List ℕ) → length f ≡ length m → ((i : ℕ) → i < length m → (get_or f i 0 ≡ get_or m i 0) ⊎ ((get_or m i 0 ≡ v → ⊥) × (get_or f i 0 ≡ v → ⊥)))
    → count_of v f ≡ count_of v m
unfolding count
count_kept v [] [] e h = refl
count_kept v [] (y ∷ f) e h = omega arith
count_kept v (x ∷ m) [] e h = omega arith
count_kept v (x ∷ m) (y ∷ f) e h =
    let t = count_kept v m f (omega (arith, e)) (λ i g. h (suc i) (omega arith)) in
    ⊎_elim
    (λ q. omega (arith, t, ap (λ (z : ℕ). equal z v) q))
    (λ q. omega (arith, t, not_one x v q.0, not_one y v q.1))
    (h 0 (omega arith))

-- where every label d becomes v
pub count_relabelled : (v d : ℕ) → (d ≡ v → ⊥) → (m f : List ℕ) → length f ≡ length m → ((i : ℕ) → i < length m → get_or f i 0 ≡ cond (eqb (get_or m i 0) d) v (get_or m i 0))
    → count_of v f ≡ count_of v m + count_of d m
unfolding count
count_relabelled v d z [] [] e h = refl
count_relabelled v d z [] (y ∷ f) e h = omega arith
count_relabelled v d z (x ∷ m) [] e h = omega arith
count_relabelled v d z (x ∷ m) (y ∷ f) e h =
    let t = count_relabelled v d z m f (omega (arith, e)) (λ i g. h (suc i) (omega arith)) in
    dec_eq x d
    (λ q. let new : y ≡ v = h 0 (omega arith) ∙ ap (λ (b : Bool). cond b v x) (eq-eqb x d q) in omega (arith, t, is_one y v new, is_one x d q, not_one x v (λ w. z (sym q ∙ w))))
    (λ n. let same : y ≡ x = h 0 (omega arith) ∙ ap (λ (b : Bool). cond b v x) (ne_eqb x d n) in omega (arith, t, ap (λ (u : ℕ). equal u v) same, not_one x d n))
