-- Laws of specs/Points.antt: the bound on a number, by two comparisons. Assumes nothing.
use mathlib.Core.Path.{◌≡◌, refl, ap, ◌∙◌}
use mathlib.Core.Bool.{Bool, true, false, ◌&&◌, ◌||◌}
use Prim.Native.Nat.{ℕ, ◌+◌, ◌*◌, ◌^◌, ◌<◌}
use native.Mathlib.Nat.{mul-pos, mul-one, one-mul}
use native.Mathlib.Omega.{arith}
use lib.Dec.{ltb, leb, eqb}
use lib.IntN.{pos}
use lib.Ieee.{Float, nan, inf, fin, up, down, binary32, lt, eq, le, neg, of_bits}
use lib.Ieee.Fits.{down_pos}
use lib.Pow.{pow_pos}
use borrow.Author.Tests.{lt-ltb}
use Rattle.numbers.proofs.Order.{eqb_sym, le_test}
use Rattle.sizing_points.specs.Points.{bounded}

-- at most, where the sizes stand the other way round
le_turned : (a b : ℕ) → (ltb a b || (eqb b a && true)) ≡ leb a b
le_turned a b = ap (λ (t : Bool). ltb a b || (t && true)) (eqb_sym b a) ∙ le_test a b

size : (k d : ℕ) → 1 * 2 ^ k * d ≡ 2 ^ k * d
size k d = ap (λ (p : ℕ). p * d) (one-mul (2 ^ k))

above_none : (k d n : ℕ) → 0 < d → ltb 0 (n + 2 ^ k * d) ≡ true
above_none k d n D = lt-ltb 0 (n + 2 ^ k * d) (some (2 ^ k * d) n (mul-pos (pow_pos k) D))
  where
    some : (b n : ℕ) → 0 < b → 0 < n + b
    some b n p = omega arith

and_true : (b : Bool) → (b && true) ≡ b
and_true true = refl
and_true false = refl

-- from -2 ^ k to 2 ^ k
pub between_powers : (k : ℕ) (x : Float) → (le (fin true 1 (pos k)) x && le x (fin false 1 (pos k))) ≡ bounded k x
unfolding le lt eq bounded
between_powers k nan = refl
between_powers k (inf true) = refl
between_powers k (inf false) = refl
between_powers k (fin false m e) =
    ap (λ (t : Bool). (t || (eqb (1 * 2 ^ k * down e) (m * up e * 1) && (false || eqb (1 * 2 ^ k * down e) 0))) && (ltb (m * up e * 1) (1 * 2 ^ k * down e) || (eqb (m * up e * 1) (1 * 2 ^ k * down e) && true)))
    (ap (λ (b : ℕ). ltb 0 (b + m * up e * 1)) (size k (down e)) ∙ lt-ltb 0 (2 ^ k * down e + m * up e * 1) (some (2 ^ k * down e) (m * up e * 1) (mul-pos (pow_pos k) (down_pos e))))
    ∙ le_test (m * up e * 1) (1 * 2 ^ k * down e)
    ∙ (λ t. leb (mul-one (m * up e) t) (size k (down e) t))
  where
    some : (b n : ℕ) → 0 < b → 0 < b + n
    some b n p = omega arith
between_powers k (fin true m e) =
    ap (λ (t : Bool). (ltb (m * up e * 1) (1 * 2 ^ k * down e) || (eqb (1 * 2 ^ k * down e) (m * up e * 1) && true)) && (t || (eqb (m * up e * 1) (1 * 2 ^ k * down e) && (false || eqb (m * up e * 1) 0))))
    (ap (λ (b : ℕ). ltb 0 (m * up e * 1 + b)) (size k (down e)) ∙ above_none k (down e) (m * up e * 1) (down_pos e))
    ∙ and_true (ltb (m * up e * 1) (1 * 2 ^ k * down e) || (eqb (1 * 2 ^ k * down e) (m * up e * 1) && true))
    ∙ le_turned (m * up e * 1) (1 * 2 ^ k * down e)
    ∙ (λ t. leb (mul-one (m * up e) t) (size k (down e) t))

-- at 2 ^ 20, as the code has it
pub within_bounds : (x : Float) → (le (neg (of_bits binary32 1233125376)) x && le x (of_bits binary32 1233125376)) ≡ bounded 20 x
unfolding neg of_bits
within_bounds x = between_powers 20 x
