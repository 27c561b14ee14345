-- Laws of specs/Points.antt and specs/Sizing.antt that the functions' proofs go by. Assumes nothing.
use Rattle.std.specs.Prelude.{Ok}
use mathlib.Core.Path.{◌≡◌, refl, sym, ap}
use mathlib.Core.Bool.{Bool, true, false, not, cond, ◌&&◌, ◌||◌, true≢false, false≢true}
use mathlib.Core.List.{List}
use Prim.Native.Nat.{ℕ, zero, suc, ◌+◌, ◌-◌, ◌/◌, ◌%◌, ◌≤◌, ◌<◌}
use native.Mathlib.Omega.{arith}
use lib.ListN.{length, get_or}
use lib.Dec.{ltb, eqb}
use lib.IntN.{ℤ, pos, negsuc, nat_abs}
use lib.Signed.{lt_z}
use lib.Ieee.{Float, nan, binary32, le, of_bits}
use borrow.Author.Tests.{le-leb, lt-leb, ltb-true, ltb-false, eqb-true, eqb-false}
use Rattle.grid.specs.Answers.{◌and_then◌}
use Rattle.grid.proofs.Checks.{passed, both_fine, first_fine}
use Rattle.sizing.specs.Points.{bounded, length_fault, none_fault, numbers_fault, points_fault}
use Rattle.sizing.specs.Sizing.{least_size, greatest_size, larger, natural, point_at, spans_at, spans_with, spans_to, resolution_fault}
use Rattle.grid.specs.declared.Reason.TheVariants.{BadNumber, BadCount, NoPoints, BadResolution}

-- the sizes' ends, as the code has them
pub size_tests : (x : Float) → (le (of_bits binary32 981467136) x && le x (of_bits binary32 1233125376)) ≡ (le least_size x && le x greatest_size)
unfolding of_bits
size_tests x = refl

-- ---- a rounded quotient as a count

pub count_none : (z : ℤ) → lt_z z (pos 0) ≡ true → 0 ≡ natural (Ok z)
unfolding natural
count_none (pos n) h = absurd (none n (ltb-true n 0 h))
  where
    none : (n : ℕ) → n < 0 → ⊥
    none n l = omega arith
count_none (negsuc n) h = refl

pub count_some : (z : ℤ) → lt_z z (pos 0) ≡ false → nat_abs z ≡ natural (Ok z)
unfolding natural
count_some (pos n) h = refl
count_some (negsuc n) h = absurd (true≢false h)

-- the larger of n and 2, and one more
pub few_cells : (n : ℕ) → n ≤ 2 → 3 ≡ larger n 2 + 1
few_cells n h = sym (ap (λ (b : Bool). cond b 2 n + 1) (le-leb n 2 h))

pub some_cells : (n : ℕ) → 2 < n → n + 1 ≡ larger n 2 + 1
some_cells n h = sym (ap (λ (b : Bool). cond b 2 n + 1) (lt-leb n 2 h))

-- ---- the spans of the points so far

pub spans_first : (ps : List Float) → spans_at (point_at ps 0) ≡ spans_to ps 0
unfolding spans_to
spans_first ps = refl

pub spans_next : (ps : List Float) (i : ℕ) → 0 < i → spans_with (spans_to ps (i - 1)) (point_at ps i) ≡ spans_to ps i
unfolding spans_to
spans_next ps zero h = absurd (omega (arith, h))
spans_next ps (suc n) h = ap (λ (j : ℕ). spans_with (spans_to ps j) (point_at ps (suc n))) (omega arith)

-- ---- a choice whose test is known

pub chosen : {X : Type 0} (b : Bool) (x y : X) → b ≡ true → x ≡ cond b x y
chosen true x y h = refl
chosen false x y h = absurd (false≢true h)

pub other : {X : Type 0} (b : Bool) (x y : X) → b ≡ false → y ≡ cond b x y
other true x y h = absurd (true≢false h)
other false x y h = refl

-- ---- what no fault says

not_or : (a b : Bool) → (not a || b) ≡ false → a ≡ true
not_or true b h = refl
not_or false b h = absurd (true≢false h)

-- points without a fault are one at least, and their numbers are bounded
module _ (ps : List Float) (h : points_fault ps ≡ Ok tt) where
  each_fine : (length_fault (length ps) ≡ Ok tt) × (none_fault (length ps) ≡ Ok tt) × (numbers_fault 0 ps ≡ Ok tt)
  each_fine =
      let p = both_fine (length_fault (length ps)) (none_fault (length ps) and_then numbers_fault 0 ps) h in
      let q = both_fine (none_fault (length ps)) (numbers_fault 0 ps) p.1 in
      (p.0, q.0, q.1)

  pub whole_points : length ps % 3 ≡ 0
  whole_points =
      let n = length ps in
      eqb-true (n % 3) 0 (not_or (eqb (n % 3) 0) (ltb 65536 (n / 3)) (passed (not (eqb (n % 3) 0) || ltb 65536 (n / 3)) BadCount 0 (Ok tt) each_fine.0).0)

  pub some_point : 3 ≤ length ps
  some_point = three (length ps) whole_points (eqb-false (length ps) 0 (passed (eqb (length ps) 0) NoPoints 0 (Ok tt) each_fine.1).0)
    where
      three : (n : ℕ) → n % 3 ≡ 0 → (n ≡ 0 → ⊥) → 3 ≤ n
      three n a b = omega arith

  pub all_bounded : (k : ℕ) → k < length ps → bounded 20 (get_or ps k nan) ≡ true
  all_bounded = (first_fine BadNumber (λ n. 0 + n) (bounded 20) nan ps).0 each_fine.2

pub resolution_fine : (r : ℕ) → resolution_fault r ≡ Ok tt → (2 ≤ r) × (r ≤ 254)
resolution_fine r h = go (ltb r 2) (ltb 254 r) refl refl (passed (ltb r 2 || ltb 254 r) BadResolution 0 (Ok tt) h).0
  where
    go : (a b : Bool) → ltb r 2 ≡ a → ltb 254 r ≡ b → (a || b) ≡ false → (2 ≤ r) × (r ≤ 254)
    go true b p q e = absurd (true≢false e)
    go false true p q e = absurd (true≢false e)
    go false false p q e = (ltb-false r 2 p, ltb-false 254 r q)
