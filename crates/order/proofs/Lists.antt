-- Laws of lists that a test makes or that are joined of others, and of lists written from the front of a buffer on. Assumes nothing.
use mathlib.Core.Bool.{Bool, true, false, cond, true≢false}
use mathlib.Core.List.{List, [], ◌∷◌, ◌++◌, append-nil, append_assoc}
use mathlib.Core.Logic.{⊎_elim}
use mathlib.Core.Path.{◌≡◌, refl, sym, ap, subst, ◌∙◌}
use Prim.Native.Nat.{ℕ, zero, suc, ◌+◌, ◌*◌, ◌≤◌, ◌<◌, zero-le}
use native.Mathlib.Nat.{mul-suc}
use native.Mathlib.Numerals.{add-one}
use native.Mathlib.Omega.{arith}
use lib.ListN.{length, set, length-append}
use Rattle.grid.proofs.First.{le_or_lt}
use Rattle.order.specs.Order.{chosen, join_all}
use Rattle.order.specs.Output.{Written}
use Rattle.order.proofs.Outputs.{written_one, written_then, written_more}

-- ---- the numbers below n that pass a test

-- none, one or more of them
pub data Which (ok : ℕ → Bool) (n : ℕ) : List ℕ → Type 0 where
  none : ((k : ℕ) → k < n → ok k ≡ false) → Which ok n []
  one : (p : ℕ) → p < n → ok p ≡ true → ((k : ℕ) → k < n → ok k ≡ true → k ≡ p) → Which ok n (p ∷ [])
  more : (p q : ℕ) (ps : List ℕ) → p < q → q < n → ok p ≡ true → ok q ≡ true → Which ok n (p ∷ q ∷ ps)

-- what holds below n and of n holds below suc n
below_next : (P : ℕ → Type 0) (n : ℕ) → ((k : ℕ) → k < n → P k) → P n → (k : ℕ) → k < suc n → P k
below_next P n h here k l = ⊎_elim (λ g. let e : n ≡ k = omega arith in subst P e here) (λ g. h k g) (le_or_lt n k)

one_most : (b : Bool) (n : ℕ) → length (cond b (n ∷ []) []) ≤ 1
one_most true n = omega arith
one_most false n = omega arith

-- two tests that agree choose the same
pub chosen_ext : (p q : ℕ → Bool) (n : ℕ) → ((u : ℕ) → p u ≡ q u) → chosen p n ≡ chosen q n
unfolding chosen
chosen_ext p q zero h = refl
chosen_ext p q (suc n) h = λ i. chosen_ext p q n h i ++ cond (h n i) (n ∷ []) []

module _ (ok : ℕ → Bool) where
  which_next : (n : ℕ) (xs : List ℕ) (b : Bool) → ok n ≡ b → Which ok n xs → Which ok (suc n) (xs ++ cond b (n ∷ []) [])
  which_next n xs false e (none h) = none (below_next (λ k. ok k ≡ false) n h e)
  which_next n xs true e (none h) = one n (omega arith) e (below_next (λ k. ok k ≡ true → k ≡ n) n (λ k l g. absurd (true≢false (sym g ∙ h k l))) (λ g. refl))
  which_next n xs false e (one p l g u) = one p (omega arith) g (below_next (λ k. ok k ≡ true → k ≡ p) n u (λ f. absurd (true≢false (sym f ∙ e))))
  which_next n xs true e (one p l g u) = more p n [] l (omega arith) g e
  which_next n xs b e (more p q ps l m g f) = more p q (ps ++ cond b (n ∷ []) []) l (omega arith) g f

  pub which : (n : ℕ) → Which ok n (chosen ok n)
  unfolding chosen
  which zero = none (λ k h. absurd (omega arith))
  which (suc n) = which_next n (chosen ok n) (ok n) refl (which n)

  pub chosen_more : (n : ℕ) → chosen ok (n + 1) ≡ chosen ok n ++ cond (ok n) (n ∷ []) []
  unfolding chosen
  chosen_more n = ap (chosen ok) (add-one n)

  pub chosen_with : (n : ℕ) → ok n ≡ true → chosen ok (n + 1) ≡ chosen ok n ++ (n ∷ [])
  chosen_with n e = chosen_more n ∙ ap (λ (b : Bool). chosen ok n ++ cond b (n ∷ []) []) e

  pub chosen_without : (n : ℕ) → ok n ≡ false → chosen ok (n + 1) ≡ chosen ok n
  chosen_without n e = chosen_more n ∙ ap (λ (b : Bool). chosen ok n ++ cond b (n ∷ []) []) e ∙ append-nil (chosen ok n)

  pub chosen_most : (n : ℕ) → length (chosen ok n) ≤ n
  unfolding chosen
  chosen_most zero = zero-le
  chosen_most (suc n) = omega (arith, chosen_most n, length-append (chosen ok n) (cond (ok n) (n ∷ []) []), one_most (ok n) n)

  pub chosen_rises : (m n : ℕ) → m ≤ n → length (chosen ok m) ≤ length (chosen ok n)
  unfolding chosen
  chosen_rises m zero h = let e : m ≡ 0 = omega arith in omega (arith, ap (λ (k : ℕ). length (chosen ok k)) e)
  chosen_rises m (suc n) h =
      ⊎_elim
      (λ l. omega (arith, chosen_rises m n l, length-append (chosen ok n) (cond (ok n) (n ∷ []) [])))
      (λ l. let e : m ≡ suc n = omega arith in omega (arith, ap (λ (k : ℕ). length (chosen ok k)) e))
      (le_or_lt m n)

-- ---- one list after the other

module _ {A B : Type 0} (f : A → List B) where
  pub join_append : (xs ys : List A) → join_all f (xs ++ ys) ≡ join_all f xs ++ join_all f ys
  unfolding join_all
  join_append [] ys = refl
  join_append (x ∷ xs) ys = ap (λ (l : List B). f x ++ l) (join_append xs ys) ∙ sym (append_assoc (f x) (join_all f xs) (join_all f ys))

  pub join_one : (x : A) → join_all f (x ∷ []) ≡ f x
  unfolding join_all
  join_one x = append-nil (f x)

  -- of k elements each
  pub join_length : (k : ℕ) → ((x : A) → length (f x) ≡ k) → (xs : List A) → length (join_all f xs) ≡ k * length xs
  unfolding join_all
  join_length k each [] = omega arith
  join_length k each (x ∷ xs) = omega (arith, length-append (f x) (join_all f xs), each x, join_length k each xs, mul-suc k (length xs))

-- ---- written from the front on, up to place n

module _ {A : Type 0} (d : A) (n : ℕ) (xs o m : List A) (w : Written d 0 xs o m) (e : n ≡ length xs) where
  pub front_then : (ys p : List A) → Written d n ys m p → Written d 0 (xs ++ ys) o p
  front_then ys p v = written_then d 0 xs ys o m p w (subst (λ (k : ℕ). Written d k ys m p) (let q : n ≡ 0 + length xs = omega arith in q) v)

  pub front_more : (x : A) → n < length o → Written d 0 (xs ++ (x ∷ [])) o (set m n x)
  front_more x h = front_then (x ∷ []) (set m n x) (written_one d n x m (omega (arith, w.size)))

-- three elements, one store each
pub written_three : {A : Type 0} (d : A) (at : ℕ) (x y z : A) (o : List A) → at + 3 ≤ length o → Written d at (x ∷ y ∷ z ∷ []) o (set (set (set o at x) (at + 1) y) (at + 2) z)
written_three d at x y z o h =
    written_more d at z (x ∷ y ∷ []) o _ (written_more d at y (x ∷ []) o _ (written_one d at x o (omega arith)) (omega arith)) (omega arith)
