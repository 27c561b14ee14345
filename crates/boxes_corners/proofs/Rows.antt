-- Lists that are joined of rows of the same length: their elements, and what a loop that writes one row after the other goes by. Assumes nothing.
use mathlib.Core.Path.{◌≡◌, sym, ap, subst, ◌∙◌}
use mathlib.Core.List.{List, [], ◌∷◌, ◌++◌}
use Prim.Native.Nat.{ℕ, zero, suc, ◌+◌, ◌*◌, ◌≤◌, ◌<◌}
use native.Mathlib.Nat.{mul-suc}
use native.Mathlib.Numerals.{add-one}
use native.Mathlib.Omega.{arith}
use lib.ListN.{length, get_or, take}
use lib.Seq.{take-suc, take_all, length-take-le, get_or-append-add}
use Rattle.order.specs.Order.{join_all}
use Rattle.order.specs.Output.{Written}
use Rattle.order.proofs.Lists.{join_append, join_one, join_length}
use Rattle.order.proofs.Outputs.{written_none, written_then, append_left}

-- the same list, as another says it
pub written_as : {A : Type 0} (d : A) (at : ℕ) (xs ys o m : List A) → xs ≡ ys → Written d at xs o m → Written d at ys o m
written_as {A} d at xs ys o m e a = subst (λ (l : List A). Written d at l o m) e a

-- a loop that has written the rows before n, from a place on
pub record Through {A B : Type 0} (f : B → List A) (d : A) (at : ℕ) (rows : List B) (o m : List A) (n : ℕ) : Type 0 where
  pub within : n ≤ length rows
  pub so_far : Written d at (join_all f (take n rows)) o m

module _ {A B : Type 0} (f : B → List A) where
  pub through_none : (d : A) (at : ℕ) (rows : List B) (o : List A) → Through f d at rows o o 0
  unfolding join_all
  through_none d at rows o = record { within = omega arith; so_far = written_none d at o }

  pub through_all : (d : A) (at : ℕ) (rows : List B) (o m : List A) (n : ℕ) → Through f d at rows o m n → length rows ≤ n → Written d at (join_all f rows) o m
  through_all d at rows o m n a h = written_as d at _ _ o m (ap (join_all f) (take_all n rows h)) a.so_far

  -- rows of k elements
  module _ (k : ℕ) (each : (x : B) → length (f x) ≡ k) where
    -- element i of row b
    pub join_at : (d : A) (e : B) (xs : List B) (b i : ℕ) → b < length xs → i < k → get_or (join_all f xs) (k * b + i) d ≡ get_or (f (get_or xs b e)) i d
    unfolding join_all
    join_at d e [] b i h g = absurd (omega arith)
    join_at d e (x ∷ xs) zero i h g =
        ap (λ (n : ℕ). get_or (f x ++ join_all f xs) n d) (let q : k * 0 + i ≡ i = omega arith in q) ∙ append_left d (f x) (join_all f xs) i (omega (arith, each x))
    join_at d e (x ∷ xs) (suc b) i h g =
        ap (λ (n : ℕ). get_or (f x ++ join_all f xs) n d) (let q : k * suc b + i ≡ length (f x) + (k * b + i) = omega (arith, each x, mul-suc k b) in q)
        ∙ get_or-append-add (f x) (join_all f xs) (k * b + i) d
        ∙ join_at d e xs b i (omega arith) g

    -- one row more
    pub written_row : (d : A) (at : ℕ) (xs : List B) (x : B) (o m p : List A) → Written d at (join_all f xs) o m → Written d (at + k * length xs) (f x) m p → Written d at (join_all f (xs ++ (x ∷ []))) o p
    written_row d at xs x o m p a b =
        written_as d at _ _ o p (sym (join_append f xs (x ∷ []) ∙ ap (λ (l : List A). join_all f xs ++ l) (join_one f x)))
        (written_then d at (join_all f xs) (f x) o m p a (subst (λ (n : ℕ). Written d (at + n) (f x) m p) (sym (join_length f k each xs)) b))

    pub through_more : (d : A) (at : ℕ) (e : B) (rows : List B) (o m p : List A) (n : ℕ) → Through f d at rows o m n → n < length rows
        → Written d (at + k * n) (f (get_or rows n e)) m p → Through f d at rows o p (n + 1)
    through_more d at e rows o m p n a h b = record {
      within = omega arith;
      so_far =
          written_as d at _ _ o p (ap (join_all f) (sym (ap (λ (i : ℕ). take i rows) (add-one n) ∙ take-suc rows n e h)))
          (written_row d at (take n rows) (get_or rows n e) o m p a.so_far
          (subst (λ (i : ℕ). Written d (at + k * i) (f (get_or rows n e)) m p) (sym (length-take-le n rows a.within)) b));
    }
