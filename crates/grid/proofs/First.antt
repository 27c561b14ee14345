-- Laws of specs/First.antt, over the element type and the test: what a loop that looks for the first place goes by, and what its answer says. Assumes nothing.
use mathlib.Core.Path.{◌≡◌, refl, sym, ap, ◌∙◌}
use mathlib.Core.Bool.{Bool, true, false, cond, ◌&&◌, ◌||◌, and_assoc, true≢false}
use mathlib.Core.Logic.{◌⊎◌, inl, inr, ⊎_elim, ◌↔◌}
use mathlib.Core.List.{List, [], ◌∷◌}
use Prim.Native.Nat.{ℕ, zero, suc, ◌+◌, ◌≤◌, ◌<◌, zero-le, suc-le-suc}
use native.Mathlib.Nat.{le_of_suc-le-suc, not-suc-le-zero, lt_of_le_of_lt, add-zero}
use native.Mathlib.Numerals.{add-one}
use native.Mathlib.Omega.{arith}
use lib.ListN.{length, get_or, drop, drop_of_length-le}
use lib.Seq.{drop-cons}
use Rattle.grid.specs.First.{FirstAt, first_not, every, some_below}

pub le_or_lt : (a b : ℕ) → (a ≤ b) ⊎ (b < a)
le_or_lt zero b = inl zero-le
le_or_lt (suc a) zero = inr (suc-le-suc zero-le)
le_or_lt (suc a) (suc b) = ⊎_elim (λ p. inl (suc-le-suc p)) (λ q. inr (suc-le-suc q)) (le_or_lt a b)

-- ---- a loop that has passed the elements before i

pub drop_next : {A : Type 0} (d : A) (xs : List A) (i : ℕ) → i < length xs → drop i xs ≡ get_or xs i d ∷ drop (i + 1) xs
drop_next d xs i h = drop-cons xs i d h ∙ ap (λ (k : ℕ). get_or xs i d ∷ drop k xs) (sym (add-one i))

-- of first_not: the place is still to be found, from i on
pub record Looking {A : Type 0} (ok : A → Bool) (xs : List A) (i : ℕ) : Type 0 where
  pub within : i ≤ length xs
  pub rest : first_not ok xs ≡ i + first_not ok (drop i xs)

-- of every: so far is b
pub record Passing {A : Type 0} (ok : A → Bool) (xs : List A) (b : Bool) (i : ℕ) : Type 0 where
  pub within : i ≤ length xs
  pub rest : every ok xs ≡ (b && every ok (drop i xs))

module _ {A : Type 0} (ok : A → Bool) (d : A) (xs : List A) where
  pub looking_starts : Looking ok xs 0
  looking_starts = record { within = zero-le; rest = omega arith }

  pub passing_starts : Passing ok xs true 0
  passing_starts = record { within = zero-le; rest = refl }

  module _ (i : ℕ) (h : i < length xs) where
    next : drop i xs ≡ get_or xs i d ∷ drop (i + 1) xs
    next = drop_next d xs i h

    first_at : first_not ok (drop i xs) ≡ cond (ok (get_or xs i d)) (suc (first_not ok (drop (i + 1) xs))) 0
    unfolding first_not
    first_at = ap (first_not ok) next

    pub looking_on : Looking ok xs i → ok (get_or xs i d) ≡ true → Looking ok xs (i + 1)
    looking_on w b =
        let e = first_at ∙ ap (λ (t : Bool). cond t (suc (first_not ok (drop (i + 1) xs))) 0) b in
        record { within = omega arith; rest = w.rest ∙ step i (first_not ok (drop i xs)) (first_not ok (drop (i + 1) xs)) e }
      where
        step : (i a b : ℕ) → a ≡ suc b → i + a ≡ i + 1 + b
        step i a b h = omega arith

    pub looking_here : Looking ok xs i → ok (get_or xs i d) ≡ false → i ≡ first_not ok xs
    looking_here w b =
        let e = first_at ∙ ap (λ (t : Bool). cond t (suc (first_not ok (drop (i + 1) xs))) 0) b in
        sym (w.rest ∙ ap (λ (k : ℕ). i + k) e ∙ add-zero i)

    pub passing_on : (b v : Bool) → Passing ok xs b i → v ≡ ok (get_or xs i d) → Passing ok xs (b && v) (i + 1)
    unfolding every
    passing_on b v w e =
        record {
          within = omega arith;
          rest = w.rest ∙ ap (λ (l : List A). b && every ok l) next
              ∙ ap (λ (t : Bool). b && (t && every ok (drop (i + 1) xs))) (sym e)
              ∙ sym (and_assoc b v (every ok (drop (i + 1) xs)));
        }

  pub looking_done : (i : ℕ) → length xs ≤ i → Looking ok xs i → length xs ≡ first_not ok xs
  unfolding first_not
  looking_done i h w =
      let end : length xs ≡ i = omega (arith, w.within) in
      end ∙ sym (w.rest ∙ ap (λ (l : List A). i + first_not ok l) (drop_of_length-le xs h) ∙ add-zero i)

  pub passing_done : (b : Bool) (i : ℕ) → length xs ≤ i → Passing ok xs b i → b ≡ every ok xs
  unfolding every
  passing_done b i h w = sym (w.rest ∙ ap (λ (l : List A). b && every ok l) (drop_of_length-le xs h) ∙ and_true b)
    where
      and_true : (b : Bool) → (b && true) ≡ b
      and_true true = refl
      and_true false = refl

-- ---- what the place says

module _ {A : Type 0} (ok : A → Bool) (d : A) where
  -- every element before the place passes
  pub before_first : (xs : List A) (k : ℕ) → k < first_not ok xs → ok (get_or xs k d) ≡ true
  unfolding first_not
  before_first [] k h = absurd (not-suc-le-zero h)
  before_first (x ∷ xs) k h = go (before_first xs) (ok x) refl k h
    where
      go : ((k : ℕ) → k < first_not ok xs → ok (get_or xs k d) ≡ true) → (b : Bool) → ok x ≡ b → (k : ℕ) → k < cond b (suc (first_not ok xs)) 0 → ok (get_or (x ∷ xs) k d) ≡ true
      go rest true e zero l = e
      go rest true e (suc k) l = rest k (le_of_suc-le-suc l)
      go rest false e k l = absurd (not-suc-le-zero l)

  -- and the element at it fails, where it is within the list
  pub at_first : (xs : List A) → first_not ok xs < length xs → ok (get_or xs (first_not ok xs) d) ≡ false
  unfolding first_not
  at_first [] h = absurd (not-suc-le-zero h)
  at_first (x ∷ xs) h = go (at_first xs) (ok x) refl h
    where
      go : (first_not ok xs < length xs → ok (get_or xs (first_not ok xs) d) ≡ false) → (b : Bool) → ok x ≡ b → cond b (suc (first_not ok xs)) 0 < length (x ∷ xs) → ok (get_or (x ∷ xs) (cond b (suc (first_not ok xs)) 0) d) ≡ false
      go rest true e l = rest (le_of_suc-le-suc l)
      go rest false e l = e

  -- so what is found is the first place at fault, and there is no other
  pub first_is : (xs : List A) → first_not ok xs < length xs → FirstAt ok d xs (first_not ok xs)
  first_is xs h = record { within = h; fails = at_first xs h; before = before_first xs }

  pub first_one : (xs : List A) (n : ℕ) → FirstAt ok d xs n → n ≡ first_not ok xs
  first_one xs n w =
      ⊎_elim
      (λ p. ⊎_elim (λ q. omega arith) (λ q. absurd (true≢false (sym (w.before (first_not ok xs) q) ∙ at_first xs (lt_of_le_of_lt p w.within)))) (le_or_lt n (first_not ok xs)))
      (λ q. absurd (true≢false (sym (before_first xs n q) ∙ w.fails)))
      (le_or_lt (first_not ok xs) n)

-- all pass exactly if the place is the length
pub every_passes : {A : Type 0} (ok : A → Bool) (xs : List A) → every ok xs ≡ true → length xs ≤ first_not ok xs
unfolding first_not every
every_passes ok [] h = zero-le
every_passes ok (x ∷ xs) h = go (every_passes ok xs) (ok x) h
  where
    go : (every ok xs ≡ true → length xs ≤ first_not ok xs) → (b : Bool) → (b && every ok xs) ≡ true → length (x ∷ xs) ≤ cond b (suc (first_not ok xs)) 0
    go rest true e = suc-le-suc (rest e)
    go rest false e = absurd (true≢false (sym e))

pub some_fails : {A : Type 0} (ok : A → Bool) (xs : List A) → every ok xs ≡ false → first_not ok xs < length xs
unfolding first_not every
some_fails ok [] h = absurd (true≢false h)
some_fails ok (x ∷ xs) h = go (some_fails ok xs) (ok x) h
  where
    go : (every ok xs ≡ false → first_not ok xs < length xs) → (b : Bool) → (b && every ok xs) ≡ false → cond b (suc (first_not ok xs)) 0 < length (x ∷ xs)
    go rest true e = suc-le-suc (rest e)
    go rest false e = suc-le-suc zero-le

-- every element passes where each does
pub every_all : {A : Type 0} (ok : A → Bool) (d : A) (xs : List A) → ((k : ℕ) → k < length xs → ok (get_or xs k d) ≡ true) → every ok xs ≡ true
every_all ok d xs h = go (every ok xs) refl
  where
    go : (b : Bool) → every ok xs ≡ b → every ok xs ≡ true
    go true e = e
    go false e = let l = some_fails ok xs e in absurd (true≢false (sym (h (first_not ok xs) l) ∙ at_first ok d xs l))

-- ---- some number below n

pub both_true : (a b : Bool) → (a && b) ≡ true → (a ≡ true) × (b ≡ true)
both_true true b h = (refl, h)
both_true false b h = absurd (true≢false (sym h))

pub or_true : (a b : Bool) → (a || b) ≡ true → (a ≡ true) ⊎ (b ≡ true)
or_true true b h = inl refl
or_true false b h = inr h

or_last : (a : Bool) → (a || true) ≡ true
or_last true = refl
or_last false = refl

-- none below 0, and one number more
pub some_none : (ok : ℕ → Bool) → some_below 0 ok ≡ false
unfolding some_below
some_none ok = refl

pub some_more : (n : ℕ) (ok : ℕ → Bool) → some_below (n + 1) ok ≡ (some_below n ok || ok n)
unfolding some_below
some_more n ok = ap (λ (k : ℕ). some_below k ok) (add-one n)

module _ (ok : ℕ → Bool) where
  found : (n : ℕ) → some_below n ok ≡ true → (k : ℕ) × (k < n) × (ok k ≡ true)
  unfolding some_below
  found zero h = absurd (true≢false (sym h))
  found (suc n) h = ⊎_elim (λ a. let w = found n a in (w.0, omega (arith, w.1), w.2)) (λ b. (n, omega arith, b)) (or_true (some_below n ok) (ok n) h)

  seen : (n k : ℕ) → k < n → ok k ≡ true → some_below n ok ≡ true
  unfolding some_below
  seen zero k l h = absurd (omega arith)
  seen (suc n) k l h =
      ⊎_elim
      (λ a. let e : n ≡ k = omega arith in ap (λ (b : Bool). some_below n ok || b) (ap ok e ∙ h) ∙ or_last (some_below n ok))
      (λ b. ap (λ (a : Bool). a || ok n) (seen n k b h))
      (le_or_lt n k)

  pub some_below_lem : (n : ℕ) → (some_below n ok ≡ true) ↔ ((k : ℕ) × (k < n) × (ok k ≡ true))
  some_below_lem n = (found n, λ w. seen n w.0 w.1 w.2)
