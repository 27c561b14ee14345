-- Laws of `specs/Rounding.antt`. Assumes nothing.
use Rattle.std.specs.Prelude.{Ok, Err}
use mathlib.Core.Path.{◌≡◌, refl, sym, ap, ◌∙◌, subst}
use mathlib.Core.Bool.{Bool, true, false, not, cond, true≢false, false≢true}
use Prim.Native.Nat.{ℕ, zero, suc, ◌+◌, ◌-◌, ◌*◌, ◌/◌, ◌%◌, ◌^◌, ◌≤◌, ◌<◌}
use native.Mathlib.Nat.{le_trans, le_of_eq, le_antisymm, le-div_iff_mul-le, lt_of_mul-lt-mul_right, mul-lt-mul_of_pos_right, lt_of_lt_of_le, lt_of_le_of_lt, mul_right_comm, mul_assoc, mul_comm, mul_left_comm, zero-mul, mul-pos, lt_irrefl, div-div-eq-div-mul, add-div_right, div-eq_of_lt, mul-one, mul-le-mul_left, mul-le-mul_right, le-add_right, one-mul, div-lt_iff_lt-mul, mul-lt-mul_of_pos_left, zero-div, not-suc-le-zero}
use native.Mathlib.Omega.{arith}
use lib.Dec.{T, ltb, leb, eqb, lt→ltb, ltb→lt, lit<, lit≤}
use lib.IntN.{ℤ, pos, negsuc, neg_ℤ, ◌+ℤ◌, ◌-ℤ◌, +ℤ_idl, +ℤ_one, suc_ℤ}
use lib.Signed.{shr_z, mag, mag_shr}
use lib.Pow.{pow-add, pow_pos, pow_mono, shl_lt}
use lib.Ieee.{Float, nan, inf, fin, up, down, binary32, odd, of_fields, is_nan, ne, neg, lt, fits, to_bits, of_bits}
use lib.Ieee.Bits.{of_bits-to_bits}
use lib.Ieee.Fits.{down_pos}
use lib.Ieee.Exact.{HasValue, odd_sign}
use lib.Ieee.Compare.{differs_from_itself}
use mir.Syntax.{w64}
use mir.Val.{SFits, to_z, of_z}
use mir.ValLaws.{to_z_pos, to_z-of_z, sfits_le}
use borrow.Author.Rules.{sfits_of}
use lib.Ieee.Nearest.{div_same}
use borrow.Author.Tests.{lt-ltb, le-ltb, ne_eqb, ltb-true, ltb-false}
use Rattle.ints.specs.Order.{same_test}
use Rattle.numbers.specs.Rounding.{Whole}
use Rattle.numbers.specs.declared.NoWhole.TheVariants.{TooLarge, NotANumber}
use Rattle.numbers.specs.Rounding.{signed, floor_z, limit, pick_whole, under_limit, floor_times, ceil_of, trunc_of, nearest_of, units, half, cell_of}

-- ---- equal fractions have the same floor

pub pred_lt : (k a : ℕ) → k ≤ a → k < suc a
pred_lt k a h = omega arith

pub lt_pred : (k a : ℕ) → k < suc a → k ≤ a
lt_pred k a h = omega arith

below_same : (a b c d : ℕ) → 0 < b → 0 < d → suc a * d ≡ suc c * b → a / b ≤ c / d
below_same a b c d B D e =
    let k = a / b in
    let h : k * b < suc a = pred_lt (k * b) a ((le-div_iff_mul-le B).0 (le_of_eq refl)) in
    let g : k * d * b < suc c * b = lt_of_le_of_lt (le_of_eq (mul_right_comm k d b)) (lt_of_lt_of_le (mul-lt-mul_of_pos_right h D) (le_of_eq e)) in
    (le-div_iff_mul-le D).1 (lt_pred (k * d) c (lt_of_mul-lt-mul_right b g))

no_zero : (n b d : ℕ) → 0 < b → 0 * d ≡ suc n * b → ⊥
no_zero n b d B e = lt_irrefl 0 (lt_of_lt_of_le (mul-pos (pred_lt 0 n (omega arith)) B) (le_of_eq (sym e ∙ zero-mul d)))

pub floor_same : (s : Bool) (a b c d : ℕ) → 0 < b → 0 < d → a * d ≡ c * b → floor_z (signed s a) b ≡ floor_z (signed s c) d
floor_same false a b c d B D e = ap pos (div_same a b c d B D e)
floor_same true zero b zero d B D e = ap pos (div_same zero b zero d B D e)
floor_same true zero b (suc c) d B D e = absurd (no_zero c b d B e)
floor_same true (suc a) b zero d B D e = absurd (no_zero a d b D (sym e))
floor_same true (suc a) b (suc c) d B D e = ap negsuc (le_antisymm (below_same a b c d B D e) (below_same c d a b D B (sym e)))

-- ---- equal fractions are under limit alike
under : (a b c d P : ℕ) → 0 < b → 0 < d → a * d ≡ c * b → a < P * b → c < P * d
under a b c d P B D e h =
    lt_of_mul-lt-mul_right b (lt_of_le_of_lt (le_of_eq (sym e)) (lt_of_lt_of_le (mul-lt-mul_of_pos_right h D) (le_of_eq (mul_right_comm P b d))))

within_same : (a b c d P : ℕ) → 0 < b → 0 < d → a * d ≡ c * b → ltb a (P * b) ≡ ltb c (P * d)
within_same a b c d P B D e =
    same_test (ltb a (P * b)) (ltb c (P * d))
    (λ t. lt→ltb c (P * d) (under a b c d P B D e (ltb→lt a (P * b) t)))
    (λ t. lt→ltb a (P * b) (under c d a b P D B (sym e) (ltb→lt c (P * d) t)))

scaled_cross : (k a b c d : ℕ) → a * d ≡ c * b → k * a * d ≡ k * c * b
scaled_cross k a b c d e = mul_assoc k a d ∙ ap (λ (x : ℕ). k * x) e ∙ sym (mul_assoc k c b)

-- ---- the floor of k x, of any fraction that is x
pub floor_of_value : (k : ℕ) (v : Float) (s : Bool) (a c : ℕ) → 0 < c → HasValue v s a c → floor_times k v ≡ under_limit a c (floor_z (signed s (k * a)) c)
unfolding floor_times
floor_of_value k nan s a c C h = absurd h
floor_of_value k (inf t) s a c C h = absurd h
floor_of_value k (fin t m e) s a c C h =
    ap (λ (b : Bool). under_limit (m * up e) (down e) (floor_z (signed b (k * (m * up e))) (down e))) h.0
    ∙ ap (λ (b : Bool). pick_whole b (Ok (floor_z (signed s (k * (m * up e))) (down e))) (Err TooLarge)) (within_same (m * up e) (down e) a c (limit) (down_pos e) C h.1)
    ∙ ap (λ (z : ℤ). under_limit a c z) (floor_same s (k * (m * up e)) (down e) (k * a) c (down_pos e) C (scaled_cross k (m * up e) (down e) a c h.1))

-- ---- what a bit pattern's fields stand for

room : (p x : ℕ) → p + x ≤ 179 → p + x + (179 - (p + x)) ≡ 179
room p x h = omega arith

units_cross : (q p x : ℕ) → p + x ≤ 179 → 2 ^ p * (q * 2 ^ x) * 2 ^ (179 - (p + x)) ≡ q * 2 ^ 30 * 2 ^ 149
units_cross q p x h =
    let r = 2 ^ (179 - (p + x)) in
    ap (λ (z : ℕ). z * r) (mul_left_comm (2 ^ p) q (2 ^ x))
    ∙ mul_assoc q (2 ^ p * 2 ^ x) r
    ∙ ap (λ (z : ℕ). q * (z * r)) (sym (pow-add 2 p x))
    ∙ ap (λ (z : ℕ). q * z) (sym (pow-add 2 (p + x) (179 - (p + x))))
    ∙ ap (λ (z : ℕ). q * 2 ^ z) (room p x h)
    ∙ sym (mul_assoc q (2 ^ 30) (2 ^ 149))

-- q * 2 ^ x units of 2 ^ -149, under limit
floor_units : (p x q : ℕ) (s : Bool) → p + x ≤ 179 → q * 2 ^ x < 2 ^ 189
    → under_limit (q * 2 ^ x) (2 ^ 149) (floor_z (signed s (2 ^ p * (q * 2 ^ x))) (2 ^ 149)) ≡ Ok (floor_z (signed s (q * 2 ^ 30)) (2 ^ (179 - (p + x))))
floor_units p x q s h l =
    ap (λ (b : Bool). pick_whole b (Ok (floor_z (signed s (2 ^ p * (q * 2 ^ x))) (2 ^ 149))) (Err TooLarge)) (lt-ltb (q * 2 ^ x) (limit * 2 ^ 149) l)
    ∙ ap Ok (floor_same s (2 ^ p * (q * 2 ^ x)) (2 ^ 149) (q * 2 ^ 30) (2 ^ (179 - (p + x))) (pow_pos 149) (pow_pos (179 - (p + x))) (units_cross q p x h))

few : (p : ℕ) → p ≤ 12 → p + 0 ≤ 179
few p h = omega arith

few_more : (p x : ℕ) → p ≤ 12 → suc x < 167 → p + x ≤ 179
few_more p x h k = omega arith

same_places : (p : ℕ) → 179 - (p + 0) ≡ 179 - p
same_places p = omega arith

same_places_more : (p x : ℕ) → 179 - (p + x) ≡ 180 - p - suc x
same_places_more p x = omega arith

wide : (t : ℕ) → t < 2 ^ 23 → t < 2 ^ 189
wide t h = lt_of_lt_of_le h (pow_mono {i = 23} {j = 189} (lit≤ tt))

led : (t : ℕ) → t < 2 ^ 23 → 2 ^ 23 + t < 2 ^ 24
led t h = omega arith

expo : (x : ℕ) → suc x < 167 → 24 + x ≤ 189
expo x h = omega arith

below_limit : (t x : ℕ) → t < 2 ^ 23 → suc x < 167 → (2 ^ 23 + t) * 2 ^ x < 2 ^ 189
below_limit t x h k = lt_of_lt_of_le (shl_lt 24 x (led t h)) (pow_mono (expo x k))

pub floor_subnormal : (p : ℕ) (s : Bool) (t : ℕ) → t < 2 ^ 23 → p ≤ 12
    → Ok (floor_z (signed s (t * 2 ^ 30)) (2 ^ (179 - p))) ≡ floor_times (2 ^ p) (of_fields binary32 s 0 t)
unfolding of_fields
floor_subnormal p s t h k =
    sym (floor_of_value (2 ^ p) (odd 24 s t 0 149) s (t * 2 ^ 0) (2 ^ 149) (pow_pos 149) (odd_sign 24 s t 0 149)
    ∙ floor_units p 0 t s (few p k) (subst (λ (n : ℕ). n < 2 ^ 189) (sym (mul-one t)) (wide t h))
    ∙ ap (λ (n : ℕ). Ok (floor_z (signed s (t * 2 ^ 30)) (2 ^ n))) (same_places p))

differ : (x : ℕ) → suc x < 167 → suc x ≡ 255 → ⊥
differ x h e = omega arith

pub floor_normal : (p : ℕ) (s : Bool) (x t : ℕ) → t < 2 ^ 23 → p ≤ 12 → suc x < 167
    → Ok (floor_z (signed s ((2 ^ 23 + t) * 2 ^ 30)) (2 ^ (180 - p - suc x))) ≡ floor_times (2 ^ p) (of_fields binary32 s (suc x) t)
unfolding of_fields
floor_normal p s x t h k l =
    let q = 2 ^ 23 + t in
    let v = odd 24 s q x 149 in
    sym (ap (λ (b : Bool). floor_times (2 ^ p) (cond b (cond (eqb t 0) (inf s) nan) v)) (ne_eqb (suc x) 255 (differ x l))
    ∙ floor_of_value (2 ^ p) v s (q * 2 ^ x) (2 ^ 149) (pow_pos 149) (odd_sign 24 s q x 149)
    ∙ floor_units p x q s (few_more p x k l) (below_limit t x h l)
    ∙ ap (λ (n : ℕ). Ok (floor_z (signed s (q * 2 ^ 30)) (2 ^ n))) (same_places_more p x))

-- the same at a field that is not 0
pub floor_field : (p : ℕ) (s : Bool) (f t : ℕ) → t < 2 ^ 23 → p ≤ 12 → f < 167 → (f ≡ 0 → ⊥)
    → Ok (floor_z (signed s ((2 ^ 23 + t) * 2 ^ 30)) (2 ^ (180 - p - f))) ≡ floor_times (2 ^ p) (of_fields binary32 s f t)
floor_field p s zero t h k l n = absurd (n refl)
floor_field p s (suc x) t h k l n = floor_normal p s x t h k l

reach : (x : ℕ) → 167 ≤ suc x → 166 ≤ x
reach x h = omega arith

past_limit : (t x : ℕ) → 167 ≤ suc x → limit * 2 ^ 149 ≤ (2 ^ 23 + t) * 2 ^ x
past_limit t x h = le_trans (le_of_eq (pow-add 2 23 166)) (le_trans (mul-le-mul_left (2 ^ 23) (pow_mono (reach x h))) (mul-le-mul_right (2 ^ x) (le-add_right (2 ^ 23) t)))

at_top : (k : ℕ) (b c s : Bool) (v : Float) → T (not (is_nan (cond b (cond c (inf s) nan) v))) → floor_times k v ≡ Err TooLarge → floor_times k (cond b (cond c (inf s) nan) v) ≡ Err TooLarge
unfolding floor_times is_nan
at_top k true true s v n h = refl
at_top k true false s v n h = absurd n
at_top k false c s v n h = h

pub floor_large : (k : ℕ) (s : Bool) (x t : ℕ) → 167 ≤ x → T (not (is_nan (of_fields binary32 s x t))) → (Err TooLarge) ≡ floor_times k (of_fields binary32 s x t)
unfolding of_fields
floor_large k s zero t l n = absurd (lt_irrefl 0 (lt_of_lt_of_le (lit< tt) l))
floor_large k s (suc x) t l n =
    let q = 2 ^ 23 + t in
    let v = odd 24 s q x 149 in
    sym (at_top k (eqb (suc x) 255) (eqb t 0) s v n
    (floor_of_value k v s (q * 2 ^ x) (2 ^ 149) (pow_pos 149) (odd_sign 24 s q x 149)
    ∙ ap (λ (b : Bool). pick_whole b (Ok (floor_z (signed s (k * (q * 2 ^ x))) (2 ^ 149))) (Err TooLarge)) (le-ltb (q * 2 ^ x) (limit * 2 ^ 149) (past_limit t x l))))

as_fields : (b : ℕ) → of_bits binary32 b ≡ of_fields binary32 (leb 2147483648 b) (b % 2147483648 / 8388608) (b % 8388608)
unfolding of_bits
as_fields b = refl

-- a value is what its own pattern's fields stand for
pub fields_are : (x : Float) → T (fits binary32 x)
    → of_fields binary32 (leb 2147483648 (to_bits binary32 x)) (to_bits binary32 x % 2147483648 / 8388608) (to_bits binary32 x % 8388608) ≡ x
fields_are x h = sym (as_fields (to_bits binary32 x)) ∙ of_bits-to_bits binary32 x h

-- ---- a NaN, and what is none

pub is_nan_lem : (k : ℕ) (x : Float) → ne x x ≡ true → (Err NotANumber) ≡ floor_times k x
unfolding floor_times
is_nan_lem k x h = ap (floor_times k) (sym (differs_from_itself x (subst T (sym h) tt)))

pub no_nan : (x : Float) → ne x x ≡ false → T (not (is_nan x))
unfolding ne is_nan
no_nan nan h = absurd (true≢false h)
no_nan (inf s) h = tt
no_nan (fin s m e) h = tt

-- ---- an i64 shifted

pub as_pos : (n : ℕ) → n < 2 ^ 54 → to_z w64 n ≡ pos n
as_pos n h = to_z_pos w64 n (omega arith)

negated : (n : ℕ) → pos 0 -ℤ pos n ≡ signed true n
negated n = +ℤ_idl (neg_ℤ (pos n))

small : (s : Bool) (n : ℕ) → n < 2 ^ 54 → SFits w64 (signed s n)
small false n h = sfits_of (omega arith)
small true zero h = sfits_of (lit< tt)
small true (suc n) h = sfits_of (omega arith)

pub negated_fits : (n : ℕ) → n < 2 ^ 54 → SFits w64 (pos 0 -ℤ to_z w64 n)
negated_fits n h = rw (as_pos n h, negated n) (small true n h)

back : (s : Bool) (n m : ℕ) → n < 2 ^ 54 → to_z w64 (of_z w64 (shr_z (signed s n) m)) ≡ shr_z (signed s n) m
back s n m h = to_z-of_z w64 (shr_z (signed s n) m) (sfits_le (mag_shr (signed s n) m) (small s n h))

pub down_positive : (n m : ℕ) → n < 2 ^ 54 → to_z w64 (of_z w64 (shr_z (to_z w64 n) m)) ≡ shr_z (signed false n) m
down_positive n m h = ap (λ (z : ℤ). to_z w64 (of_z w64 (shr_z z m))) (as_pos n h) ∙ back false n m h

pub down_negative : (n m : ℕ) → n < 2 ^ 54 → to_z w64 (of_z w64 (shr_z (to_z w64 (of_z w64 (pos 0 -ℤ to_z w64 n))) m)) ≡ shr_z (signed true n) m
down_negative n m h =
    ap (λ (z : ℤ). to_z w64 (of_z w64 (shr_z (to_z w64 (of_z w64 (pos 0 -ℤ z))) m))) (as_pos n h)
    ∙ ap (λ (z : ℤ). to_z w64 (of_z w64 (shr_z (to_z w64 (of_z w64 z)) m))) (negated n)
    ∙ ap (λ (z : ℤ). to_z w64 (of_z w64 (shr_z z m))) (to_z-of_z w64 (signed true n) (small true n h))
    ∙ back true n m h

-- past 62 places only the sign is left
gone : (n k : ℕ) → n < 2 ^ 54 → 62 < k → n / 2 ^ 62 ≡ n / 2 ^ k
gone n k h l =
    let a : 54 ≤ k = omega arith in
    div-eq_of_lt (lt_of_lt_of_le h (pow_mono {i = 54} {j = 62} (lit≤ tt))) ∙ sym (div-eq_of_lt (lt_of_lt_of_le h (pow_mono a)))

pub clamped : (s : Bool) (n k : ℕ) → n < 2 ^ 54 → 62 < k → shr_z (signed s n) (2 ^ 62) ≡ shr_z (signed s n) (2 ^ k)
clamped false n k h l = ap pos (gone n k h l)
clamped true zero k h l = ap pos (gone 0 k h l)
clamped true (suc n) k h l = ap negsuc (gone n k (omega arith) l)

-- ---- an answer from the floor

abbrev pub map_whole : (ℤ → ℤ) → Whole → Whole
map_whole f (Ok z) = Ok (f z)
map_whole f (Err e) = Err e

map_pick : (f : ℤ → ℤ) (b : Bool) (z : ℤ) → map_whole f (pick_whole b (Ok z) (Err TooLarge)) ≡ pick_whole b (Ok (f z)) (Err TooLarge)
map_pick f true z = refl
map_pick f false z = refl

pub ceil_is : (x : Float) → ceil_of x ≡ map_whole neg_ℤ (floor_times (2 ^ 0) (neg x))
unfolding ceil_of floor_times neg
ceil_is nan = refl
ceil_is (inf s) = refl
ceil_is (fin s m e) =
    let n = m * up e in
    sym (map_pick neg_ℤ (ltb n (limit * down e)) (floor_z (signed (not s) (1 * n)) (down e))
    ∙ ap (λ (k : ℕ). under_limit n (down e) (neg_ℤ (floor_z (signed (not s) k) (down e)))) (one-mul n))

-- half of one more
abbrev pub halved : ℤ → ℤ
halved z = shr_z (z +ℤ pos 1) 2

quarter : (b d : ℕ) → b / (2 * d) ≡ b / d / 2
quarter b d = ap (λ (k : ℕ). b / k) (mul_comm 2 d) ∙ sym (div-div-eq-div-mul b d 2)

off : (b d : ℕ) → suc (b + d) - suc d ≡ b
off b d = omega arith

off_two : (n : ℕ) → suc (n + 1) - 2 ≡ n
off_two n = omega arith

half_high : (b d : ℕ) → 0 < d → floor_z (negsuc (b + d) +ℤ pos d) (2 * d) ≡ halved (negsuc ((b + d) / d))
half_high b d D =
    ap (λ (t : Bool). floor_z (cond t (negsuc (suc (b + d) - suc d)) (pos (d - suc (b + d)))) (2 * d)) (lt-ltb d (suc (b + d)) (omega arith))
    ∙ ap (λ (k : ℕ). negsuc (k / (2 * d))) (off b d)
    ∙ ap negsuc (quarter b d)
    ∙ ap (λ (k : ℕ). negsuc (k / 2)) (sym (off_two (b / d)))
    ∙ ap (λ (t : Bool). shr_z (cond t (negsuc (suc (b / d + 1) - 2)) (pos (1 - suc (b / d + 1)))) 2) (sym (lt-ltb 1 (suc (b / d + 1)) (omega arith)))
    ∙ ap (λ (k : ℕ). halved (negsuc k)) (sym (add-div_right b D))

half_low : (a d : ℕ) → a < d → floor_z (negsuc a +ℤ pos d) (2 * d) ≡ halved (negsuc (a / d))
half_low a d h =
    ap (λ (t : Bool). floor_z (cond t (negsuc (suc a - suc d)) (pos (d - suc a))) (2 * d)) (le-ltb d (suc a) h)
    ∙ ap pos (div-eq_of_lt (room_for a d h))
    ∙ ap (λ (k : ℕ). halved (negsuc k)) (sym (div-eq_of_lt h))
  where
    room_for : (a d : ℕ) → a < d → d - suc a < 2 * d
    room_for a d h = omega arith

put_back : (a d : ℕ) → d ≤ a → a - d + d ≡ a
put_back a d h = omega arith

pub half_of_floor : (a : ℤ) (d : ℕ) → 0 < d → floor_z (a +ℤ pos d) (2 * d) ≡ halved (floor_z a d)
half_of_floor (pos a) d D = ap pos (quarter (a + d) d ∙ ap (λ (k : ℕ). k / 2) (add-div_right a D))
half_of_floor (negsuc a) d D = go (ltb a d) refl
  where
    go : (b : Bool) → ltb a d ≡ b → floor_z (negsuc a +ℤ pos d) (2 * d) ≡ halved (negsuc (a / d))
    go true h = half_low a d (ltb-true a d h)
    go false h = subst (λ (k : ℕ). floor_z (negsuc k +ℤ pos d) (2 * d) ≡ halved (negsuc (k / d))) (put_back a d (ltb-false a d h)) (half_high (a - d) d D)

pub nearest_is : (k : ℕ) (x : Float) → nearest_of k x ≡ map_whole halved (floor_times (2 * k) x)
unfolding nearest_of floor_times
nearest_is k nan = refl
nearest_is k (inf s) = refl
nearest_is k (fin s m e) =
    let n = m * up e in
    let a = signed s (2 * k * n) in
    ap (λ (z : ℤ). under_limit n (down e) z) (half_of_floor a (down e) (down_pos e)) ∙ sym (map_pick halved (ltb n (limit * down e)) (floor_z a (down e)))

-- ---- the floor fits

abbrev pub Under : ℕ → Whole → Type 0
Under B (Ok z) = mag z < B
Under B (Err TooLarge) = Unit
Under B (Err NotANumber) = Unit

shrunk : (s : Bool) (n d P : ℕ) → 0 < d → 0 < P → n < P * d → mag (floor_z (signed s n) d) < P
shrunk false n d P D Q h = (div-lt_iff_lt-mul D).1 h
shrunk true zero d P D Q h = (div-lt_iff_lt-mul D).1 h
shrunk true (suc n) d P D Q h = (div-lt_iff_lt-mul D).1 (lt_of_suc n (P * d) h)
  where
    lt_of_suc : (n m : ℕ) → suc n < m → n < m
    lt_of_suc n m h = omega arith

pub floor_under : (k : ℕ) (x : Float) → 0 < k → Under (k * limit) (floor_times k x)
unfolding floor_times
floor_under k nan K = tt
floor_under k (inf s) K = tt
floor_under k (fin s m e) K =
    let n = m * up e in
    go (ltb n (limit * down e)) (λ t. shrunk s (k * n) (down e) (k * limit) (down_pos e) (mul-pos K (pow_pos 40))
    (lt_of_lt_of_le (mul-lt-mul_of_pos_left (ltb→lt n (limit * down e) t) K) (le_of_eq (sym (mul_assoc k (limit) (down e))))))
  where
    go : (b : Bool) → (T b → mag (floor_z (signed s (k * (m * up e))) (down e)) < k * limit) → Under (k * limit) (pick_whole b (Ok (floor_z (signed s (k * (m * up e))) (down e))) (Err TooLarge))
    go true h = h tt
    go false h = tt

-- ---- sums on an i64 that is small

module _ (z : ℤ) (h : mag z < 2 ^ 62) where
  read_back : to_z w64 (of_z w64 z) ≡ z
  read_back = to_z-of_z w64 z (sfits_of (omega arith))

  mag_negated : mag (neg_ℤ z) < 2 ^ 63
  mag_negated = go z h
    where
      go : (y : ℤ) → mag y < 2 ^ 62 → mag (neg_ℤ y) < 2 ^ 63
      go (pos zero) k = lit< tt
      go (pos (suc n)) k = omega arith
      go (negsuc n) k = omega arith

  minus_is : pos 0 -ℤ to_z w64 (of_z w64 z) ≡ neg_ℤ z
  minus_is = ap (λ (y : ℤ). pos 0 -ℤ y) read_back ∙ +ℤ_idl (neg_ℤ z)

  pub minus_fits : SFits w64 (pos 0 -ℤ to_z w64 (of_z w64 z))
  minus_fits = subst (SFits w64) (sym minus_is) (sfits_of mag_negated)

  pub minus_back : to_z w64 (of_z w64 (pos 0 -ℤ to_z w64 (of_z w64 z))) ≡ neg_ℤ z
  minus_back = to_z-of_z w64 (pos 0 -ℤ to_z w64 (of_z w64 z)) minus_fits ∙ minus_is

  mag_more : mag (z +ℤ pos 1) < 2 ^ 63
  mag_more = subst (λ (y : ℤ). mag y < 2 ^ 63) (sym (+ℤ_one z)) (go z h)
    where
      go : (y : ℤ) → mag y < 2 ^ 62 → mag (suc_ℤ y) < 2 ^ 63
      go (pos n) k = omega arith
      go (negsuc zero) k = lit< tt
      go (negsuc (suc n)) k = omega arith

  more_is : to_z w64 (of_z w64 z) +ℤ pos 1 ≡ z +ℤ pos 1
  more_is = ap (λ (y : ℤ). y +ℤ pos 1) read_back

  pub more_fits : SFits w64 (to_z w64 (of_z w64 z) +ℤ pos 1)
  more_fits = subst (SFits w64) (sym more_is) (sfits_of mag_more)

  pub halved_back : to_z w64 (of_z w64 (shr_z (to_z w64 (of_z w64 (to_z w64 (of_z w64 z) +ℤ pos 1))) 2)) ≡ halved z
  halved_back =
      ap (λ (y : ℤ). to_z w64 (of_z w64 (shr_z y 2))) (to_z-of_z w64 (to_z w64 (of_z w64 z) +ℤ pos 1) more_fits ∙ more_is)
      ∙ to_z-of_z w64 (halved z) (sfits_le {z = z +ℤ pos 1} (mag_shr (z +ℤ pos 1) 2) (sfits_of mag_more))

  pub halved_fits : SFits w64 (halved z)
  halved_fits = sfits_le {z = z +ℤ pos 1} (mag_shr (z +ℤ pos 1) 2) (sfits_of mag_more)

-- ---- the truncation

pub trunc_negative : (x : Float) → lt x (of_bits binary32 0) ≡ true → ceil_of x ≡ trunc_of x
unfolding ceil_of trunc_of lt of_bits
trunc_negative nan h = absurd (false≢true h)
trunc_negative (inf s) h = refl
trunc_negative (fin true m e) h = refl
trunc_negative (fin false m e) h = absurd (not-suc-le-zero (subst (λ (k : ℕ). m * up e * 1 < k) (zero-mul (down e)) (ltb-true (m * up e * 1) (0 * down e) h)))

no_size : (n b : ℕ) → n * 1 + b ≤ 0 → n ≡ 0
no_size n b h = omega arith

at_zero : (n d : ℕ) → n ≡ 0 → floor_z (signed true (1 * n)) d ≡ signed true (n / d)
at_zero n d h = subst (λ (k : ℕ). floor_z (signed true (1 * k)) d ≡ signed true (k / d)) (sym h) (ap pos (zero-div d) ∙ sym (ap (signed true) (zero-div d)))

pub trunc_positive : (x : Float) → lt x (of_bits binary32 0) ≡ false → floor_times (2 ^ 0) x ≡ trunc_of x
unfolding floor_times trunc_of lt of_bits
trunc_positive nan h = refl
trunc_positive (inf s) h = refl
trunc_positive (fin false m e) h = ap (λ (k : ℕ). under_limit (m * up e) (down e) (pos (k / down e))) (one-mul (m * up e))
trunc_positive (fin true m e) h =
    ap (under_limit (m * up e) (down e)) (at_zero (m * up e) (down e) (no_size (m * up e) (0 * down e) (ltb-false 0 (m * up e * 1 + 0 * down e) h)))

-- ---- the cell of a coordinate

pub shr_under : (z : ℤ) (d P : ℕ) → 0 < d → mag z < P * d → mag (shr_z z d) < P
shr_under (pos a) d P D h = (div-lt_iff_lt-mul D).1 h
shr_under (negsuc a) d P D h = (div-lt_iff_lt-mul D).1 h

-- ---- what a caller reads back: a coordinate and its cell fit

abbrev pub Fitting : Whole → Type 0
Fitting (Ok z) = SFits w64 z
Fitting (Err TooLarge) = Unit
Fitting (Err NotANumber) = Unit

pub nearest_fits : (x : Float) → Fitting (nearest_of units x)
nearest_fits x = subst Fitting (sym (nearest_is units x)) (go (floor_times (2 * units) x) (floor_under (2 * units) x (lit< tt)))
  where
    go : (w : Whole) → Under (2 * units * limit) w → Fitting (map_whole halved w)
    go (Ok z) h = halved_fits z (lt_of_lt_of_le h (lit≤ tt))
    go (Err TooLarge) h = tt
    go (Err NotANumber) h = tt

pub cell_fits : (q : ℤ) → SFits w64 q → SFits w64 (cell_of q)
cell_fits q f =
    subst (SFits w64) (sym (half_of_floor q half (lit< tt))) (halved_fits (shr_z q half) (shr_under q half (2 ^ 62) (lit< tt) (lt_of_lt_of_le f.sfits (lit≤ tt))))
