-- How many labels a trip has set, and what it has still to do. Assumes nothing.
use mathlib.Core.Bool.{Bool}
use mathlib.Core.Path.{◌≡◌, refl, sym, ◌∙◌}
use mathlib.Core.List.{List}
use Prim.Native.Nat.{ℕ, ◌+◌, ◌*◌, ◌≤◌, ◌<◌}
use native.Mathlib.Omega.{arith}
use lib.Dec.{eqb, leb}
use lib.ListN.{length, get_or, set}
use borrow.Author.Tests.{eq-eqb, ne_eqb, le-leb, lt-leb}
use Rattle.grid.specs.Counts.{count, count_of}
use Rattle.grid.proofs.Counts.{count_same, count_less, count_gain}

module _ (v : ℕ) (l : List ℕ) (i : ℕ) where
  -- a store of neither, and a store of v on another label
  pub count_keep : (w : ℕ) → (get_or l i 0 ≡ v → ⊥) → (w ≡ v → ⊥) → count_of v (set l i w) ≡ count_of v l
  count_keep w p q = count_same (λ x. eqb x v) l i w (ne_eqb w v q ∙ sym (ne_eqb (get_or l i 0) v p))

  pub count_more : i < length l → (get_or l i 0 ≡ v → ⊥) → count_of v (set l i v) ≡ count_of v l + 1
  count_more h p = count_gain (λ x. eqb x v) l i v h (ne_eqb (get_or l i 0) v p) (eq-eqb v v refl)

-- cells under way
abbrev high : ℕ → Bool
high x = leb 16 x

-- 16 for each label to pass, 8 for each cell under way
abbrev pub weight : ℕ → List ℕ → ℕ
weight pass l = 16 * count_of pass l + 8 * count high l

module _ (pass : ℕ) (l : List ℕ) (i w : ℕ) (h : i < length l) where
  pub weight_push : get_or l i 0 ≡ pass → pass < 9 → 16 ≤ w → weight pass (set l i w) + 8 ≡ weight pass l
  weight_push e low up = omega (
    arith,
    count_less (λ x. eqb x pass) l i w h (eq-eqb (get_or l i 0) pass e) (ne_eqb w pass (λ q. omega arith)),
    count_gain high l i w h (lt-leb 16 (get_or l i 0) (omega arith)) (le-leb 16 w up),
  )

  pub weight_pop : 16 ≤ get_or l i 0 → pass < 9 → w < 9 → (w ≡ pass → ⊥) → weight pass (set l i w) + 8 ≡ weight pass l
  weight_pop up low wl z = omega (
    arith,
    count_same (λ x. eqb x pass) l i w (ne_eqb w pass z ∙ sym (ne_eqb (get_or l i 0) pass (λ q. omega arith))),
    count_less high l i w h (le-leb 16 (get_or l i 0) up) (lt-leb 16 w (omega arith)),
  )
