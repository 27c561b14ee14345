-- Laws of specs/Counts.antt: what a store and a rule for every label change, and what a loop that counts goes by. Assumes nothing.
use mathlib.Core.Bool.{Bool, true, false, cond, not}
use mathlib.Core.Path.{◌≡◌, refl, sym, ap, ◌∙◌}
use mathlib.Core.List.{List, [], ◌∷◌, map}
use Prim.Native.Nat.{ℕ, zero, suc, ◌+◌, ◌≤◌, ◌<◌, zero-le}
use native.Mathlib.Omega.{arith}
use lib.ListN.{length, get_or, set, drop, drop_of_length-le}
use mir.Val.{bool_byte}
use Rattle.grid.specs.Counts.{count}
use Rattle.grid.proofs.First.{drop_next}

-- a test as a number
pub one_if : (b : Bool) → bool_byte b ≡ cond b 1 0
one_if true = refl
one_if false = refl

one_most : (b : Bool) → cond b 1 0 ≤ 1
one_most true = omega arith
one_most false = omega arith

module _ (ok : ℕ → Bool) where
  pub count_most : (l : List ℕ) → count ok l ≤ length l
  unfolding count
  count_most [] = omega arith
  count_most (x ∷ l) = omega (arith, one_most (ok x), count_most l)

  -- a store of a label of the same kind
  pub count_same : (l : List ℕ) (n v : ℕ) → ok v ≡ ok (get_or l n 0) → count ok (set l n v) ≡ count ok l
  unfolding count
  count_same [] n v e = refl
  count_same (x ∷ l) zero v e = ap (λ (b : Bool). cond b 1 0 + count ok l) e
  count_same (x ∷ l) (suc n) v e = ap (λ (t : ℕ). cond (ok x) 1 0 + t) (count_same l n v e)

  -- a store that takes one away
  pub count_less : (l : List ℕ) (n v : ℕ) → n < length l → ok (get_or l n 0) ≡ true → ok v ≡ false → count ok (set l n v) + 1 ≡ count ok l
  unfolding count
  count_less [] n v h p q = absurd (omega arith)
  count_less (x ∷ l) zero v h p q = omega (arith, ap {B = ℕ} (λ (b : Bool). cond b 1 0) p, ap {B = ℕ} (λ (b : Bool). cond b 1 0) q)
  count_less (x ∷ l) (suc n) v h p q = omega (arith, count_less l n v (omega arith) p q)

  -- a store that adds one
  pub count_gain : (l : List ℕ) (n v : ℕ) → n < length l → ok (get_or l n 0) ≡ false → ok v ≡ true → count ok (set l n v) ≡ count ok l + 1
  unfolding count
  count_gain [] n v h p q = absurd (omega arith)
  count_gain (x ∷ l) zero v h p q = omega (arith, ap {B = ℕ} (λ (b : Bool). cond b 1 0) p, ap {B = ℕ} (λ (b : Bool). cond b 1 0) q)
  count_gain (x ∷ l) (suc n) v h p q = omega (arith, count_gain l n v (omega arith) p q)

  -- the others
  pub count_others : (l : List ℕ) → count ok l + count (λ v. not (ok v)) l ≡ length l
  unfolding count
  count_others [] = refl
  count_others (x ∷ l) = omega (arith, count_others l, either (ok x))
    where
      either : (b : Bool) → cond b 1 0 + cond (not b) 1 0 ≡ 1
      either true = refl
      either false = refl

  -- after a rule for every label
  pub count_map : (f : ℕ → ℕ) (l : List ℕ) → count ok (map f l) ≡ count (λ v. ok (f v)) l
  unfolding count
  count_map f [] = refl
  count_map f (x ∷ l) = ap (λ (t : ℕ). cond (ok (f x)) 1 0 + t) (count_map f l)

  -- none of the kind
  pub count_none : (l : List ℕ) → ((n : ℕ) → n < length l → ok (get_or l n 0) ≡ false) → count ok l ≡ 0
  unfolding count
  count_none [] h = refl
  count_none (x ∷ l) h = omega (arith, ap {B = ℕ} (λ (b : Bool). cond b 1 0) (h 0 (omega arith)), count_none l (λ n g. h (suc n) (omega arith)))

-- two tests that agree
pub count_alike : (p q : ℕ → Bool) → ((v : ℕ) → p v ≡ q v) → (l : List ℕ) → count p l ≡ count q l
unfolding count
count_alike p q h [] = refl
count_alike p q h (x ∷ l) = λ t. cond (h x t) 1 0 + count_alike p q h l t

-- ---- a loop that counts the labels of a kind, and has passed those before i

pub record Counted (ok : ℕ → Bool) (l : List ℕ) (n i : ℕ) : Type 0 where
  pub within : i ≤ length l
  pub few : n ≤ i
  pub rest : n + count ok (drop i l) ≡ count ok l

module _ (ok : ℕ → Bool) (l : List ℕ) where
  pub counted_none : Counted ok l 0 0
  counted_none = record { within = zero-le; few = zero-le; rest = omega arith }

  pub counted_more : (n i v : ℕ) → Counted ok l n i → i < length l → v ≡ cond (ok (get_or l i 0)) 1 0 → Counted ok l (n + v) (i + 1)
  unfolding count
  counted_more n i v w h e =
      let more : count ok (drop i l) ≡ v + count ok (drop (i + 1) l) = ap (count ok) (drop_next 0 l i h) ∙ ap (λ (t : ℕ). t + count ok (drop (i + 1) l)) (sym e) in
      record { within = omega arith; few = omega (arith, w.few, e, one_most (ok (get_or l i 0))); rest = omega (arith, w.rest, more) }

  pub counted_all : (n i : ℕ) → Counted ok l n i → length l ≤ i → n ≡ count ok l
  unfolding count
  counted_all n i w h = let none : count ok (drop i l) ≡ 0 = ap (count ok) (drop_of_length-le l h) in omega (arith, w.rest, none)
