-- How many labels changed, by what they changed into. Assumes nothing.
use mathlib.Core.Bool.{Bool, cond}
use mathlib.Core.Logic.{◌⊎◌, ⊎_elim}
use mathlib.Core.Path.{◌≡◌, refl, sym, ap, ◌∙◌}
use mathlib.Core.List.{List, [], ◌∷◌}
use Prim.Native.Nat.{ℕ, zero, suc, ◌+◌, ◌<◌}
use native.Mathlib.Omega.{arith}
use lib.Dec.{eqb}
use lib.ListN.{length, get_or, set}
use borrow.Author.Tests.{eq-eqb, ne_eqb}
use Rattle.grid.specs.Counts.{count, count_of}
use Rattle.edits_settle.proofs.Relabelled.{equal, is_one, not_one}
use Rattle.edits.specs.Edits.{changed}

-- 1 where two labels differ
abbrev differ : ℕ → ℕ → ℕ
differ x y = cond (eqb x y) 0 1

same_no : (x y : ℕ) → x ≡ y → differ x y ≡ 0
same_no x y e = ap {B = ℕ} (λ (b : Bool). cond b 0 1) (eq-eqb x y e)

other_yes : (x y : ℕ) → (x ≡ y → ⊥) → differ x y ≡ 1
other_yes x y z = ap {B = ℕ} (λ (b : Bool). cond b 0 1) (ne_eqb x y z)

-- where labels only become v, as many change as labels v are gained
pub changed_count : (v : ℕ) (m f : List ℕ) → length f ≡ length m → ((i : ℕ) → i < length m → (get_or f i 0 ≡ get_or m i 0) ⊎ ((get_or m i 0 ≡ v → ⊥) × (get_or f i 0 ≡ v)))
    → changed m f + count_of v m ≡ count_of v f
unfolding changed count
changed_count v [] [] e h = refl
changed_count v [] (y ∷ f) e h = omega arith
changed_count v (x ∷ m) [] e h = omega arith
changed_count v (x ∷ m) (y ∷ f) e h =
    let t = changed_count v m f (omega (arith, e)) (λ i g. h (suc i) (omega arith)) in
    ⊎_elim
    (λ q. omega (arith, t, same_no x y (sym q), ap (λ (z : ℕ). equal z v) q))
    (λ q. omega (arith, t, other_yes x y (λ w. q.0 (w ∙ q.1)), not_one x v q.0, is_one y v q.1))
    (h 0 (omega arith))

-- one change more than from labels that have it already
pub changed_one : (m f : List ℕ) (i w : ℕ) → i < length m → length f ≡ length m → (get_or m i 0 ≡ w → ⊥) → get_or f i 0 ≡ w → changed m f ≡ changed (set m i w) f + 1
unfolding changed
changed_one [] f i w h e z q = absurd (never i h)
  where
    never : (i : ℕ) → i < 0 → ⊥
    never i h = omega arith
changed_one (x ∷ m) [] i w h e z q = omega arith
changed_one (x ∷ m) (y ∷ f) zero w h e z q = omega (arith, other_yes x y (λ p. z (p ∙ q)), same_no w y (sym q))
changed_one (x ∷ m) (y ∷ f) (suc i) w h e z q = omega (arith, changed_one m f i w (omega arith) (omega (arith, e)) z q)
