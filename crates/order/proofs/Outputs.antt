-- Laws of specs/Output.antt: writing nothing, one number, one list and then another; and what stands at the front. And of one check after another. Assumes nothing.
use Rattle.std.specs.Prelude.{Ok, Err}
use mathlib.Core.Logic.{◌⊎◌, inl, inr, ⊎_elim}
use mathlib.Core.Path.{◌≡◌, refl, sym, ap, ◌∙◌, subst}
use mathlib.Core.List.{List, [], ◌∷◌, ◌++◌}
use Prim.Native.Nat.{ℕ, ◌+◌, ◌-◌, ◌≤◌, ◌<◌}
use native.Mathlib.Omega.{arith}
use lib.Dec.{T, ltb}
use lib.ListN.{length, get_or, take, drop, set, length-append, length-drop, length-set, get_or-append}
use lib.Seq.{get_or-set_same, get_or-set_other, get_or-append-add, get_or-drop, get_or-take, length-take-le, ext_get_or}
use borrow.Author.Tests.{ltb-false}
use Rattle.grid.specs.declared.Refusal.{Refusal}
use Rattle.grid.specs.Answers.{◌and_then◌, is_one_of, Finds, Checked}
use Rattle.grid.proofs.First.{le_or_lt}
use Rattle.grid.proofs.Checks.{passed, finds_if}
use Rattle.order.specs.Output.{room_fault, over, Written}
use Rattle.grid.specs.declared.Reason.TheVariants.{NoRoom}

-- an element of one list after another
module _ {A : Type 0} (d : A) (xs ys : List A) where
  pub append_left : (n : ℕ) → n < length xs → get_or (xs ++ ys) n d ≡ get_or xs n d
  append_left n h = get_or-append xs ys d n h

  pub append_right : (n : ℕ) → length xs ≤ n → get_or (xs ++ ys) n d ≡ get_or ys (n - length xs) d
  append_right n h = ap (λ (k : ℕ). get_or (xs ++ ys) k d) (let e : n ≡ length xs + (n - length xs) = omega arith in e) ∙ get_or-append-add xs ys (n - length xs) d

module _ {A : Type 0} (d : A) where
  pub written_none : (at : ℕ) (o : List A) → Written d at [] o o
  written_none at o = record { size = refl; there = λ n h. absurd (none n h); others = λ n h. refl }
    where
      none : (n : ℕ) → n < 0 → ⊥
      none n h = omega arith

  -- one element more
  pub written_one : (at : ℕ) (x : A) (o : List A) → at < length o → Written d at (x ∷ []) o (set o at x)
  written_one at x o h = record {
    size = length-set o at x;
    there = λ n l. ap (λ (k : ℕ). get_or (set o at x) k d) (let e : at + n ≡ at = omega arith in e) ∙ get_or-set_same o at x d h ∙ first n l;
    others = λ n l. get_or-set_other o at n x d (apart n l);
  }
    where
      first : (n : ℕ) → n < 1 → x ≡ get_or (x ∷ []) n d
      first n l = ap (λ (k : ℕ). get_or (x ∷ []) k d) (let e : 0 ≡ n = omega arith in e)

      apart : (n : ℕ) → (n < at) ⊎ (at + 1 ≤ n) → n ≡ at → ⊥
      apart n (inl l) e = omega arith
      apart n (inr l) e = omega arith

  -- one list after the other
  pub written_then : (at : ℕ) (xs ys o m p : List A) → Written d at xs o m → Written d (at + length xs) ys m p → Written d at (xs ++ ys) o p
  written_then at xs ys o m p a b = record {
    size = b.size ∙ a.size;
    there = λ n h.
        ⊎_elim
        (λ l. ap (λ (k : ℕ). get_or p k d) (let e : at + n ≡ at + length xs + (n - length xs) = omega arith in e)
        ∙ b.there (n - length xs) (omega (arith, length-append xs ys))
        ∙ sym (append_right d xs ys n l))
        (λ l. b.others (at + n) (inl (omega arith)) ∙ a.there n l ∙ sym (append_left d xs ys n l))
        (le_or_lt (length xs) n);
    others = λ n h. b.others n (later n h) ∙ a.others n (first n h);
  }
    where
      later : (n : ℕ) → (n < at) ⊎ (at + length (xs ++ ys) ≤ n) → (n < at + length xs) ⊎ (at + length xs + length ys ≤ n)
      later n (inl l) = inl (omega arith)
      later n (inr l) = inr (omega (arith, length-append xs ys))

      first : (n : ℕ) → (n < at) ⊎ (at + length (xs ++ ys) ≤ n) → (n < at) ⊎ (at + length xs ≤ n)
      first n (inl l) = inl l
      first n (inr l) = inr (omega (arith, length-append xs ys))

  -- the same list, from the same place
  pub written_more : (at : ℕ) (x : A) (xs o m : List A) → Written d at xs o m → at + length xs < length o → Written d at (xs ++ (x ∷ [])) o (set m (at + length xs) x)
  written_more at x xs o m a h = written_then at xs (x ∷ []) o m (set m (at + length xs) x) a (written_one (at + length xs) x m (omega (arith, a.size)))

  length_over : (xs o : List A) → length xs ≤ length o → length (over xs o) ≡ length o
  unfolding over
  length_over xs o h = length-append xs (drop (length xs) o) ∙ omega (arith, length-drop (length xs) o)

  -- what the front of a buffer is, and the rest
  pub over_front : (xs o : List A) (n : ℕ) → n < length xs → get_or (over xs o) n d ≡ get_or xs n d
  unfolding over
  over_front xs o n h = append_left d xs (drop (length xs) o) n h

  pub over_past : (xs o : List A) (n : ℕ) → length xs ≤ n → get_or (over xs o) n d ≡ get_or o n d
  unfolding over
  over_past xs o n h =
      append_right d xs (drop (length xs) o) n h
      ∙ get_or-drop (length xs) o (n - length xs) d
      ∙ ap (λ (k : ℕ). get_or o k d) (let e : length xs + (n - length xs) ≡ n = omega arith in e)

  -- written from place 0 on, it is over the front
  pub written_over : (xs o m : List A) → length xs ≤ length o → Written d 0 xs o m → m ≡ over xs o
  written_over xs o m h a =
      ext_get_or d m (over xs o) (a.size ∙ sym (length_over xs o h))
      (λ n l.
      ⊎_elim
      (λ g. a.others n (inr (omega arith)) ∙ sym (over_past xs o n g))
      (λ g. ap (λ (k : ℕ). get_or m k d) (let e : n ≡ 0 + n = omega arith in e) ∙ a.there n g ∙ sym (over_front xs o n g))
      (le_or_lt (length xs) n))

  -- and what stands in front of it is as it was
  pub front_written : (at : ℕ) (xs o m : List A) → at + length xs ≤ length o → Written d at xs o m → take (at + length xs) m ≡ take at o ++ xs
  front_written at xs o m h a =
      ext_get_or d (take (at + length xs) m) (take at o ++ xs)
      (let e = length-take-le (at + length xs) m (omega (arith, a.size)) in omega (arith, e, length-append (take at o) xs, front))
      (λ n l.
      let l : n < at + length xs = subst (λ (k : ℕ). n < k) (length-take-le (at + length xs) m (omega (arith, a.size))) l in
      get_or-take (at + length xs) m n d l
      ∙ ⊎_elim
      (λ g.
      ap (λ (k : ℕ). get_or m k d) (let e : n ≡ at + (n - at) = omega arith in e)
      ∙ a.there (n - at) (omega arith)
      ∙ ap (λ (k : ℕ). get_or xs k d) (let e : n - at ≡ n - length (take at o) = omega (arith, front) in e)
      ∙ sym (append_right d (take at o) xs n (omega (arith, front))))
      (λ g. a.others n (inl g) ∙ sym (get_or-take at o n d g) ∙ sym (append_left d (take at o) xs n (omega (arith, front))))
      (le_or_lt at n))
    where
      front : length (take at o) ≡ at
      front = length-take-le at o (omega arith)

-- ---- one check and then another

pub then_first : (a b : Checked) (f : Refusal) → Err f ≡ a → Err f ≡ (a and_then b)
then_first a b f e = ap (λ (x : Checked). x and_then b) e

pub then_next : (a b : Checked) → a ≡ Ok tt → b ≡ (a and_then b)
then_next a b e = sym (ap (λ (x : Checked). x and_then b) e)

-- the one number that a check of room finds
pub finds_room : (ns : List ℕ) (len need : ℕ) → T (is_one_of 14 ns) → Finds ns (room_fault len need)
finds_room ns len need h = finds_if ns (ltb len need) NoRoom 0 (Ok tt) h tt

-- and one that found nothing
pub room_fine : (len need : ℕ) → room_fault len need ≡ Ok tt → need ≤ len
room_fine len need h = ltb-false len need (passed (ltb len need) NoRoom 0 (Ok tt) h).0
