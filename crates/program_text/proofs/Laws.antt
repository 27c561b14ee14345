-- Laws of specs/Text.antt: a number's digits, how many there are, and one text after another. Assumes nothing.
use mathlib.Core.Bool.{Bool, true, false, cond}
use mathlib.Core.List.{List, [], ◌∷◌, ◌++◌}
use mathlib.Core.Logic.{⊎_elim}
use mathlib.Core.Path.{◌≡◌, refl, sym, ap, ◌∙◌, subst}
use Prim.Native.Nat.{ℕ, zero, suc, ◌+◌, ◌-◌, ◌*◌, ◌/◌, ◌%◌, ◌^◌, ◌≤◌, ◌<◌}
use native.Mathlib.Nat.{one-le-pow, pow-le-pow_right}
use native.Mathlib.Omega.{arith}
use lib.Dec.{ltb, lit<}
use lib.ListN.{length, take, get_or, set, length-append}
use lib.Seq.{length-take-le, take-suc, take_all}
use borrow.Author.Tests.{lt-ltb, le-ltb}
use Rattle.io.specs.Digits.{hex_digit_ascii, last_digits, IsDigitCount}
use Rattle.grid.proofs.First.{le_or_lt}
use Rattle.order.specs.Order.{join_all}
use Rattle.order.specs.Output.{Written}
use Rattle.order.proofs.Outputs.{written_none, written_one, written_then}
use Rattle.order.proofs.Lists.{join_append, join_one}
use Rattle.program_text.specs.Text.{decimal_in, decimal, spaced, line, PutText}

-- ---- the digits

shown : (n : ℕ) → hex_digit_ascii (n % 10) ≡ 48 + n % 10
shown n = ap (λ (b : Bool). cond b (48 + n % 10) (87 + n % 10)) (lt-ltb (n % 10) 10 (omega arith))

-- as many digits as hold n, and no zero before them
digits_are : (f k n : ℕ) → k < f → n < 10 ^ suc k → (1 < suc k → 10 ^ k ≤ n) → last_digits 10 (suc k) n ≡ decimal_in f n
unfolding decimal_in
digits_are zero k n l h g = absurd (let z : 0 < 0 = omega arith in omega arith)
digits_are (suc f) zero n l h g =
    ap (λ (d : ℕ). d ∷ []) (shown n ∙ let e : 48 + n % 10 ≡ 48 + n = omega arith in e)
    ∙ sym (ap (λ (b : Bool). cond b ((48 + n) ∷ []) (decimal_in f (n / 10) ++ ((48 + n % 10) ∷ []))) (lt-ltb n 10 (omega arith)))
digits_are (suc f) (suc k) n l h g =
    let m = g (omega arith) in
    (λ i. digits_are f k (n / 10) (omega arith) (omega arith) (λ z. omega arith) i ++ (shown n i ∷ []))
    ∙ sym (ap (λ (b : Bool). cond b ((48 + n) ∷ []) (decimal_in f (n / 10) ++ ((48 + n % 10) ∷ []))) (le-ltb n 10 (omega (arith, one-le-pow k 10 (lit< tt)))))

-- the text of a number is the fewest digits that hold it
pub decimal_is : (n k : ℕ) → IsDigitCount 10 1 n k → k ≤ 20 → last_digits 10 k n ≡ decimal n
decimal_is n zero w l = absurd (let z = w.0 in omega arith)
decimal_is n (suc k) w l = digits_are 20 k n (omega arith) w.1 (λ z. subst (λ (j : ℕ). 10 ^ j ≤ n) (let e : suc k - 1 ≡ k = omega arith in e) (w.2 z))

-- 20 digits hold every number of 64 bits
pub few_digits : (n k : ℕ) → IsDigitCount 10 1 n k → n < 2 ^ 64 → k ≤ 20
few_digits n k w h = ⊎_elim (λ l. absurd (many l)) (λ l. omega arith) (le_or_lt 21 k)
  where
    many : 21 ≤ k → ⊥
    many l =
        let m : 20 ≤ k - 1 = omega arith in
        let a : 10 ^ 20 ≤ 10 ^ (k - 1) = pow-le-pow_right (lit< tt) m in
        let b : 2 ^ 64 < 10 ^ 20 = lit< tt in
        omega (arith, w.2 (omega arith))

in_most : (k n : ℕ) → length (decimal_in k n) ≤ k
unfolding decimal_in
in_most zero n = omega arith
in_most (suc k) n = go (ltb n 10) (in_most k (n / 10))
  where
    go : (b : Bool) → length (decimal_in k (n / 10)) ≤ k → length (cond b ((48 + n) ∷ []) (decimal_in k (n / 10) ++ ((48 + n % 10) ∷ []))) ≤ suc k
    go true h = omega arith
    go false h = omega (arith, length-append (decimal_in k (n / 10)) ((48 + n % 10) ∷ []))

pub decimal_most : (n : ℕ) → length (decimal n) ≤ 20
decimal_most n = in_most 20 n

-- ---- one text after another

pub put_then : (at m n : ℕ) (xs ys a b c : List ℕ) → PutText at xs a b m → PutText m ys b c n → PutText at (xs ++ ys) a c n
put_then at m n xs ys a b c p q = record {
  written = written_then 0 at xs ys a b c p.written (subst (λ (k : ℕ). Written 0 k ys b c) p.ends q.written);
  ends = omega (arith, p.ends, q.ends, length-append xs ys);
}

pub put_as : (at n : ℕ) (xs ys a b : List ℕ) → xs ≡ ys → PutText at xs a b n → PutText at ys a b n
put_as at n xs ys a b e p = subst (λ (zs : List ℕ). PutText at zs a b n) e p

pub put_one : (at x : ℕ) (o : List ℕ) → at < length o → PutText at (x ∷ []) o (set o at x) (at + 1)
put_one at x o h = record { written = written_one 0 at x o h; ends = refl }

-- ---- numbers, each after a space

pub numbers_most : (ns : List ℕ) → length (join_all spaced ns) ≤ 21 * length ns
unfolding join_all
numbers_most [] = omega arith
numbers_most (n ∷ ns) = omega (arith, length-append (spaced n) (join_all spaced ns), decimal_most n, numbers_most ns)

pub record NumbersTo (at : ℕ) (ns o m : List ℕ) (i end : ℕ) : Type 0 where
  pub front : PutText at (join_all spaced (take i ns)) o m end
  pub few : i ≤ length ns

pub none_put : (at : ℕ) (ns o : List ℕ) → NumbersTo at ns o o 0 at
unfolding join_all
none_put at ns o = record { front = record { written = written_none 0 at o; ends = let e : at ≡ at + 0 = omega arith in e }; few = omega arith }

module _ (at : ℕ) (ns o m : List ℕ) (i end : ℕ) (w : NumbersTo at ns o m i end) where
  -- where the next number ends at most
  pub ends_most : i < length ns → at + 21 * length ns ≤ length o → end + 21 ≤ length m
  ends_most h room =
      let k = length-take-le i ns (omega arith) in
      omega (arith, w.front.ends, w.front.written.size, numbers_most (take i ns))

  pub one_number : (p : List ℕ) (next : ℕ) → i < length ns → PutText end (spaced (get_or ns i 0)) m p next → NumbersTo at ns o p (i + 1) next
  one_number p next h q = record {
    front =
        put_as at next _ _ o p
        (ap (λ (xs : List ℕ). join_all spaced (take i ns) ++ xs) (sym (join_one spaced (get_or ns i 0)))
        ∙ sym (join_append spaced (take i ns) (get_or ns i 0 ∷ []))
        ∙ ap (join_all spaced) (sym (take-suc ns i 0 h) ∙ ap (λ (n : ℕ). take n ns) (let z : suc i ≡ i + 1 = omega arith in z)))
        (put_then at end next (join_all spaced (take i ns)) (spaced (get_or ns i 0)) o m p w.front q);
    few = omega arith;
  }

  pub numbers_put : length ns ≤ i → PutText at (join_all spaced ns) o m end
  numbers_put h = put_as at end _ _ o m (ap (join_all spaced) (take_all i ns h)) w.front

-- how long a line is at most
pub line_most : (word ns : List ℕ) → length (line word ns) ≤ length word + 21 * length ns + 1
line_most word ns = omega (arith, length-append (word ++ join_all spaced ns) (10 ∷ []), length-append word (join_all spaced ns), numbers_most ns)
