-- Rounding moves a fraction by little (`near`), and what that says of the product, the quotient and the reciprocal of floats without a sign. The size of a finite float x is the fraction `num x` / `den x`. Assumes nothing.
use mathlib.Core.Path.{◌≡◌, refl, sym, ap, subst}
use mathlib.Core.Logic.{⊎_elim}
use mathlib.Core.Bool.{Bool, true, false, not, cond, true≢false}
use Prim.Native.Nat.{ℕ, suc, ◌+◌, ◌-◌, ◌*◌, ◌/◌, ◌%◌, ◌^◌, ◌≤◌, ◌<◌, compare}
use native.Mathlib.Nat.{le_trans, le_of_eq, mul-pos, mul-one, mul-le-mul_left, mul-le-mul_right, le_of_mul-le-mul_right, lt-div-mul-add, div-mul-le_self}
use native.Mathlib.Omega.{arith}
use lib.Dec.{T, eqb, lit≤, lit<}
use lib.Pow.{pow_pos, pow-add}
use lib.Ieee.{Float, nan, inf, fin, binary32, up, down, size, round, mul, div}
use lib.Ieee.Digits.{size_reaches}
use lib.Ieee.Fits.{nearest-le}
use lib.Ieee.Exact.{HasValue, round_exact}
use lib.Ieee.Nearest.{closest, nearest-ge}
use lib.Ieee.Order.{drop, kept}
use lib.Ieee.Scale.{finite, round_val, round_under}
use lib.Ieee.Positive.{num, den, den_pos, value→cross, first_pos}
use borrow.Author.Tests.{ne_eqb}
use Rattle.grid.proofs.First.{le_or_lt}
use Rattle.sizing.proofs.Ratio.{Exact, round_capped}

-- ---- rounding moves a fraction by little

-- the whole number next to n / u is at most 1 above
closest_over : (n u : ℕ) → closest n u * u ≤ n + u
closest_over n u =
    let a : closest n u * u ≤ suc (n / u) * u = mul-le-mul_right u (nearest-le (n / u) (compare (n % u * 2) u)) in
    let b : n / u * u ≤ n = div-mul-le_self n u in
    omega arith

-- and at most 1 below
closest_under : (n u : ℕ) → 0 < u → n ≤ closest n u * u + u
closest_under n u U =
    let a : n / u * u ≤ closest n u * u = mul-le-mul_right u (nearest-ge (n / u) (compare (n % u * 2) u)) in
    let b : n < n / u * u + u = lt-div-mul-add U in
    omega arith

-- the unit of n / c rounded to 24 digits: n / c over 2 ^ 23, or 1
unit_small : (n c : ℕ) → c * 2 ^ drop 24 n c * 2 ^ 23 ≤ n + c * 2 ^ 23
unit_small n c = ⊎_elim few many (le_or_lt (size (n / c)) 24)
  where
    none : (z : ℕ) → z ≤ 24 → z - 24 ≡ 0
    none z h = omega arith

    used : (z : ℕ) → 24 < z → 23 + (z - 24) < z
    used z h = omega arith

    few : size (n / c) ≤ 24 → c * 2 ^ drop 24 n c * 2 ^ 23 ≤ n + c * 2 ^ 23
    few h = subst (λ (k : ℕ). c * 2 ^ k * 2 ^ 23 ≤ n + c * 2 ^ 23) (sym (none (size (n / c)) h)) (omega arith)

    many : 24 < size (n / c) → c * 2 ^ drop 24 n c * 2 ^ 23 ≤ n + c * 2 ^ 23
    many h =
        let k = drop 24 n c in
        let a : 2 ^ 23 * 2 ^ k ≤ n / c = le_trans (le_of_eq (sym (pow-add 2 23 k))) (size_reaches (n / c) (23 + k) (used (size (n / c)) h)) in
        let b : 2 ^ 23 * 2 ^ k * c ≤ n / c * c = mul-le-mul_right c a in
        let d : n / c * c ≤ n = div-mul-le_self n c in
        omega arith

-- finite, and with no sign
abbrev pub plain : Float → Bool
plain nan = false
plain (inf s) = false
plain (fin s m e) = not s

-- x is a / c but for 2 ^ -20 of it and 2 ^ -40
pub record Near (x : Float) (a c : ℕ) : Type 0 where
  pub is_plain : T (plain x)
  pub over : num x * c * 2 ^ 40 ≤ (a * (2 ^ 40 + 2 ^ 20) + c) * den x
  pub under : a * 2 ^ 40 * den x ≤ num x * c * 2 ^ 40 + (a * 2 ^ 20 + c) * den x

-- a value without a sign is plain
pub value_plain : (x : Float) (a c : ℕ) → HasValue x false a c → T (plain x)
value_plain nan a c v = absurd v
value_plain (inf s) a c v = absurd v
value_plain (fin true m e) a c v = absurd (true≢false v.0)
value_plain (fin false m e) a c v = tt

-- a / c rounded to k units, each of w smallest values, of which z make 1
module _ (k w c a z : ℕ) (large : 2 ^ 40 ≤ z) (small : c * w * 2 ^ 23 ≤ a * z + c * 2 ^ 23) where
  counted_over : k * (c * w) ≤ a * z + c * w → k * w * c * 2 ^ 40 ≤ (a * (2 ^ 40 + 2 ^ 20) + c) * z
  counted_over h = let l = mul-le-mul_left c large in omega arith

  counted_under : a * z ≤ k * (c * w) + c * w → a * z * 2 ^ 40 ≤ k * w * c * 2 ^ 40 + (a * 2 ^ 20 + c) * z
  counted_under h = let l = mul-le-mul_left c large in omega arith

-- from g / z to x / p, which it equals
module _ (x p g z c a : ℕ) (Z : 0 < z) (same : x * z ≡ g * p) where
  same_over : g * c * 2 ^ 40 ≤ (a * (2 ^ 40 + 2 ^ 20) + c) * z → x * c * 2 ^ 40 ≤ (a * (2 ^ 40 + 2 ^ 20) + c) * p
  same_over h =
      let l = mul-le-mul_right p h in
      let e : x * z * c ≡ g * p * c = ap (λ (n : ℕ). n * c) same in
      le_of_mul-le-mul_right {k = z} (omega arith) Z

  same_under : a * z * 2 ^ 40 ≤ g * c * 2 ^ 40 + (a * 2 ^ 20 + c) * z → a * 2 ^ 40 * p ≤ x * c * 2 ^ 40 + (a * 2 ^ 20 + c) * p
  same_under h =
      let l = mul-le-mul_right p h in
      let e : x * z * c ≡ g * p * c = ap (λ (n : ℕ). n * c) same in
      le_of_mul-le-mul_right {k = z} (omega arith) Z

-- a / c rounded, if that is finite
pub near_finite : (a c : ℕ) → 0 < c → T (finite (round binary32 false a c)) → Near (round binary32 false a c) a c
near_finite a c C f =
    let x = round binary32 false a c in
    let n = a * 2 ^ 149 in
    let w = 2 ^ drop 24 n c in
    let k = kept 24 n c in
    let v = round_val binary32 a c (round_under binary32 a c f) in
    let e = value→cross x (k * w) (2 ^ 149) v in
    let z : 2 ^ 40 ≤ 2 ^ 149 = lit≤ tt in record {
      is_plain = value_plain x (k * w) (2 ^ 149) v;
      over = same_over (num x) (den x) (k * w) (2 ^ 149) c a (pow_pos 149) e (counted_over k w c a (2 ^ 149) z (unit_small n c) (closest_over n (c * w)));
      under = same_under (num x) (den x) (k * w) (2 ^ 149) c a (pow_pos 149) e (counted_under k w c a (2 ^ 149) z (unit_small n c) (closest_under n (c * w) (mul-pos C (pow_pos (drop 24 n c)))));
    }

-- 2 ^ 60 is a value of the format
exact_high : Exact (2 ^ 60) 1
exact_high = round_exact binary32 false (2 ^ 60) 1 1 209 (pow_pos 0) (lit< tt) (lit< tt) refl

-- a / c rounded, if that is at most 2 ^ 60
pub near : (a c : ℕ) → 0 < c → a ≤ 2 ^ 60 * c → Near (round binary32 false a c) a c
near a c C h =
    near_finite a c C
    (subst (λ (x : Float). T (finite x)) (sym (round_capped a c (2 ^ 60) 1 C (pow_pos 0) (le_trans (le_of_eq (mul-one a)) h) exact_high).is) tt)

-- ---- the operations, of what is plain

-- the product is a fraction rounded
pub mul_is : (x y : Float) → T (plain x) → T (plain y) → mul binary32 x y ≡ round binary32 false (num x * num y) (den x * den y)
unfolding mul
mul_is nan y p q = absurd p
mul_is (inf s) y p q = absurd p
mul_is (fin true m e) y p q = absurd p
mul_is (fin false m e) nan p q = absurd q
mul_is (fin false m e) (inf t) p q = absurd q
mul_is (fin false m e) (fin true n g) p q = absurd q
mul_is (fin false m e) (fin false n g) p q = refl

-- and so is the quotient
pub div_is : (x y : Float) → T (plain x) → T (plain y) → 0 < num y → div binary32 x y ≡ round binary32 false (num x * den y) (num y * den x)
unfolding div
div_is nan y p q h = absurd p
div_is (inf s) y p q h = absurd p
div_is (fin true m e) y p q h = absurd p
div_is (fin false m e) nan p q h = absurd q
div_is (fin false m e) (inf t) p q h = absurd q
div_is (fin false m e) (fin true n g) p q h = absurd q
div_is (fin false m e) (fin false n g) p q h =
    ap (λ (t : Bool). cond t (cond (eqb m 0) nan (inf false)) (round binary32 false (m * up e * down g) (n * up g * down e))) (ne_eqb n 0 (apart n (first_pos n (up g) h)))
  where
    apart : (n : ℕ) → 0 < n → n ≡ 0 → ⊥
    apart n l z = omega arith

-- so the product is near the exact one
pub mul_near : (x y : Float) → T (plain x) → T (plain y) → num x * num y ≤ 2 ^ 60 * (den x * den y) → Near (mul binary32 x y) (num x * num y) (den x * den y)
mul_near x y p q h =
    subst (λ (z : Float). Near z (num x * num y) (den x * den y)) (sym (mul_is x y p q)) (near (num x * num y) (den x * den y) (mul-pos (den_pos x) (den_pos y)) h)

-- and the quotient
pub div_near : (x y : Float) → T (plain x) → T (plain y) → 0 < num y → num x * den y ≤ 2 ^ 60 * (num y * den x) → Near (div binary32 x y) (num x * den y) (num y * den x)
div_near x y p q k h =
    subst (λ (z : Float). Near z (num x * den y) (num y * den x)) (sym (div_is x y p q k)) (near (num x * den y) (num y * den x) (mul-pos k (den_pos x)) h)
