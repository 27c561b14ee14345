-- Three laws of `f32` numbers: a difference of two bounded numbers in order is bounded and not below 0 (`difference`); r d / m has a whole
-- part of at most r where d is at most m (`whole_part`): rounding does not lift it to r + 1, since a value of the format lies just above
-- r m, and another one at r + 1/2; and d over a cell size is never too large (`whole_quotient`). Sizes are fractions of natural numbers: that of `fin s m e` is m * up e / down e. Assumes nothing.
use Rattle.std.specs.Prelude.{Ok, Err}
use mathlib.Core.Path.{◌≡◌, refl, sym, ap, ◌∙◌, subst}
use mathlib.Core.Logic.{◌⊎◌, inl, inr}
use mathlib.Core.Bool.{Bool, true, false, not, cond, ◌&&◌, ◌||◌, true≢false, false≢true}
use Prim.Native.Nat.{ℕ, zero, suc, ◌+◌, ◌-◌, ◌*◌, ◌/◌, ◌%◌, ◌^◌, ◌≤◌, ◌<◌}
use native.Mathlib.Nat.{le_trans, le_of_eq, lt_of_lt_of_le, lt_of_le_of_lt, lt_of_not-le, not-le_of_lt, lt_irrefl, le_of_suc-le-suc}
use native.Mathlib.Nat.{zero-div, zero-mul, mul-zero, one-mul, mul-one, suc-mul, add-mul, mul_comm, mul_assoc, mul_left_comm, mul_right_comm, mul-pos}
use native.Mathlib.Nat.{mul-le-mul_left, mul-le-mul_right, le_of_mul-le-mul_right, lt-div-mul-add, div-mul-le_self, div-lt_iff_lt-mul}
use native.Mathlib.Omega.{arith}
use lib.Dec.{T, ltb, leb, eqb, ltb→lt, leb→le, eqb→eq, lit≤, lit<}
use lib.IntN.{ℤ, pos, negsuc, neg_ℤ}
use lib.Pow.{pow_pos, pow-add, pow-lt, shl_lt}
use lib.Ieee.{Float, nan, inf, fin, binary32, up, down, below, level, odd, units, round, sum, sub, mul, div, le, lt, of_int, fits}
use lib.Ieee.Fits.{up_pos, down_pos, and_l, and_r, round_is, round-fits}
use lib.Ieee.Exact.{HasValue, round_exact}
use lib.Ieee.Back.{round_whole}
use lib.Ieee.Order.{round_mono, drop, kept}
use lib.Ieee.Positive.{through, first_pos}
use Prim.Native.Nat.{zero-le}
use borrow.Author.Tests.{lt-ltb, ne_eqb, ltb-true, ltb-false, leb-true}
use Rattle.numbers.specs.declared.NoWhole.TheVariants.{TooLarge}
use Rattle.numbers.specs.Rounding.{floor_z, limit, pick_whole, ceil_of, trunc_of}
use Rattle.numbers.proofs.Order.{le_test, le_not}
use Rattle.numbers.proofs.Sign.{round_none}
use Rattle.sizing.specs.Points.{bounded}

-- a value of the format, not below 0 and at most 2 ^ 21: `fin sign digits power` is ±digits * up power / down power
pub record Extent (d : Float) : Type 0 where
  pub sign : Bool
  pub digits : ℕ
  pub power : ℤ
  pub is : d ≡ fin sign digits power
  pub held : T (fits binary32 d)
  pub plus : (sign ≡ false) ⊎ (digits ≡ 0)
  pub most : digits * up power ≤ 2 ^ 21 * down power

-- ---- a rounded fraction, and a value that it does not pass

-- x is finite, has no sign, and is at most b / d
pub record Capped (x : Float) (b d : ℕ) : Type 0 where
  pub digits : ℕ
  pub power : ℤ
  pub is : x ≡ fin false digits power
  pub most : digits * up power * d ≤ b * down power

-- what `le` tests of two numbers with no sign
in_order : (a b : ℕ) → T (ltb a b || (eqb a b && true)) → a ≤ b
in_order a b h = leb→le a b (subst T (le_test a b) h)

-- a number or an infinity, with no sign
abbrev plain : Float → Bool
plain nan = false
plain (inf s) = not s
plain (fin s m e) = not s

plain_odd : (d q k l : ℕ) → T (plain (odd d false q k l))
unfolding odd
plain_odd d zero k l = tt
plain_odd d (suc q) k l = tt

plain_units : (q k : ℕ) → T (plain (units binary32 false q k))
unfolding units
plain_units q k = go (ltb (q * 2 ^ k) (2 ^ 277))
  where
    go : (t : Bool) → T (plain (cond t (odd 25 false q k 149) (inf false)))
    go true = plain_odd 25 q k 149
    go false = tt

plain_round : (n d : ℕ) → T (plain (round binary32 false n d))
plain_round n d = subst (λ (x : Float). T (plain x)) (sym (round_is binary32 false n d)) (plain_units (kept 24 (n * 2 ^ 149) d) (drop 24 (n * 2 ^ 149) d))

capped_by : (x y : Float) (b d : ℕ) → T (plain x) → HasValue y false b d → T (le x y) → Capped x b d
unfolding le
capped_by nan y b d p v h = absurd p
capped_by (inf true) y b d p v h = absurd p
capped_by (inf false) nan b d p v h = absurd v
capped_by (inf false) (inf t) b d p v h = absurd v
capped_by (inf false) (fin t n g) b d p v h = absurd h
capped_by (fin true m e) y b d p v h = absurd p
capped_by (fin false m e) nan b d p v h = absurd v
capped_by (fin false m e) (inf t) b d p v h = absurd v
capped_by (fin false m e) (fin true n g) b d p v h = absurd (true≢false v.0)
capped_by (fin false m e) (fin false n g) b d p v h = record {
  digits = m;
  power = e;
  is = refl;
  most = through (m * up e) (n * up g) b (down e) (down g) d (down_pos g) (in_order (m * up e * down g) (n * up g * down e) h) (le_of_eq v.1);
}

-- b / d is a value of the format: rounding changes nothing
abbrev pub Exact : ℕ → ℕ → Type 0
Exact b d = HasValue (round binary32 false b d) false b d

-- a / c is at most b / d, a value of the format: so is a / c rounded
pub round_capped : (a c b d : ℕ) → 0 < c → 0 < d → a * d ≤ b * c → Exact b d → Capped (round binary32 false a c) b d
round_capped a c b d C D h v = capped_by (round binary32 false a c) (round binary32 false b d) b d (plain_round a c) v (round_mono binary32 a c b d C D h)

-- ---- the difference

-- n / c rounded, n / c being at most 2 ^ 21, and 0 where it has a sign
extent_round : (u : Bool) (n c : ℕ) → 0 < c → (u ≡ false) ⊎ (n ≡ 0) → n ≤ 2 ^ 21 * c → Extent (round binary32 u n c)
extent_round true n c C (inl e) h = absurd (true≢false e)
extent_round true n c C (inr z) h = subst (λ (k : ℕ). Extent (round binary32 true k c)) (sym z) (record {
  sign = true;
  digits = 0;
  power = pos 0;
  is = round_none true c C;
  held = round-fits binary32 true 0 c;
  plus = inr refl;
  most = zero-le;
})
extent_round false n c C p h =
    let r = round_capped n c (2 ^ 21) 1 C (pow_pos 0) (le_trans (le_of_eq (mul-one n)) h) (round_whole binary32 false (2 ^ 21) (lit≤ tt)) in record {
      sign = false;
      digits = r.digits;
      power = r.power;
      is = r.is;
      held = round-fits binary32 false n c;
      plus = inl refl;
      most = le_trans (le_of_eq (sym (mul-one (r.digits * up r.power)))) r.most;
    }

less : (a b c : ℕ) → a ≤ 2 ^ 20 * c → a - b ≤ 2 ^ 21 * c
less a b c k = omega arith

-- ±a / c less ±b / c, of which neither is above 2 ^ 20 in size and the second is not above the first
extent_sum : (s : Bool) (a : ℕ) (u : Bool) (b c : ℕ) → 0 < c → a ≤ 2 ^ 20 * c → b ≤ 2 ^ 20 * c → T (below u b s a || level u b s a)
    → Extent (sum binary32 s a (not u) b c)
unfolding sum
extent_sum false a true b c C A B h = extent_round false (a + b) c C (inl refl) (omega arith)
extent_sum false a false b c C A B h = go (ltb a b) refl
  where
    clash : (a b : ℕ) → a < b → b ≤ a → ⊥
    clash a b k l = omega arith

    go : (t : Bool) → ltb a b ≡ t → Extent (cond t (round binary32 true (b - a) c) (round binary32 false (a - b) c))
    go true e = absurd (clash a b (ltb-true a b e) (in_order b a h))
    go false e = extent_round false (a - b) c C (inl refl) (less a b c A)
extent_sum true a false b c C A B h =
    let p : b ≡ a = eqb→eq b a (and_l (eqb b a) (eqb b 0) h) in
    let q : b ≡ 0 = eqb→eq b 0 (and_r (eqb b a) (eqb b 0) h) in
    extent_round true (a + b) c C (inr (omega arith)) (omega arith)
extent_sum true a true b c C A B h = go (ltb a b) h
  where
    none : (a b : ℕ) → b ≡ a → a - b ≡ 0
    none a b k = omega arith

    go : (t : Bool) → T (t || (eqb b a && true)) → Extent (cond t (round binary32 false (b - a) c) (round binary32 (ltb b a) (a - b) c))
    go true k = extent_round false (b - a) c C (inl refl) (less b a c B)
    go false k = extent_round (ltb b a) (a - b) c C (inr (none a b (eqb→eq b a (and_l (eqb b a) true k)))) (less a b c A)

-- the rounded difference of two bounded numbers in order is an extent
pub difference : (lo hi : Float) → bounded 20 lo ≡ true → bounded 20 hi ≡ true → le lo hi ≡ true → Extent (sub binary32 hi lo)
unfolding bounded le sub
difference nan hi p q h = absurd (false≢true p)
difference (inf u) hi p q h = absurd (false≢true p)
difference (fin u n g) nan p q h = absurd (false≢true q)
difference (fin u n g) (inf s) p q h = absurd (false≢true q)
difference (fin u n g) (fin s m e) p q h =
    extent_sum s (m * up e * down g) u (n * up g * down e) (down e * down g) (mul-pos (down_pos e) (down_pos g))
    (widened (m * up e) (down e) (down g) (leb-true (m * up e) (2 ^ 20 * down e) q))
    (le_trans (widened (n * up g) (down g) (down e) (leb-true (n * up g) (2 ^ 20 * down g) p)) (le_of_eq (ap (λ (k : ℕ). 2 ^ 20 * k) (mul_comm (down g) (down e)))))
    (subst T (sym h) tt)
  where
    widened : (n c d : ℕ) → n ≤ 2 ^ 20 * c → n * d ≤ 2 ^ 20 * (c * d)
    widened n c d k = le_trans (mul-le-mul_right d k) (le_of_eq (mul_assoc (2 ^ 20) c d))

-- ---- a number of 24 digits, and a power of two, just above r k

-- digits * 2 ^ shift is from r k to (r + 1/2) k
record Over (r k : ℕ) : Type 0 where
  digits : ℕ
  shift : ℕ
  small : digits < 2 ^ 24
  least : r * k ≤ digits * 2 ^ shift
  most : 2 * (digits * 2 ^ shift) ≤ (2 * r + 1) * k

twice : (r k : ℕ) → (2 * r + 1) * k ≡ 2 * (r * k) + k
twice r k = add-mul (2 * r) 1 k ∙ ap (λ (n : ℕ). n + 1 * k) (mul_assoc 2 r k) ∙ ap (λ (n : ℕ). 2 * (r * k) + n) (one-mul k)

-- r k itself where k is below 2 ^ 16, so that r k has 24 digits at most; else the next multiple of 2 ^ 8, which is at most k / 2 away
next_over : (r k : ℕ) → r ≤ 254 → k < 2 ^ 24 → Over r k
next_over r k R K = go (ltb k (2 ^ 16)) refl
  where
    go : (t : Bool) → ltb k (2 ^ 16) ≡ t → Over r k
    go true e =
        let l : k < 2 ^ 16 = ltb-true k (2 ^ 16) e in
        let n : r * k ≤ 254 * k = mul-le-mul_right k R in
        let m = twice r k in record {
          digits = r * k;
          shift = 0;
          small = omega arith;
          least = le_of_eq (sym (mul-one (r * k)));
          most = omega arith;
        }
    go false e =
        let l : 2 ^ 16 ≤ k = ltb-false k (2 ^ 16) e in
        let n : r * k ≤ 254 * k = mul-le-mul_right k R in
        let m = twice r k in
        let f : r * k / 2 ^ 8 * 2 ^ 8 ≤ r * k = div-mul-le_self (r * k) (2 ^ 8) in
        let g : r * k < r * k / 2 ^ 8 * 2 ^ 8 + 2 ^ 8 = lt-div-mul-add (pow_pos 8) in record {
          digits = r * k / 2 ^ 8 + 1;
          shift = 8;
          small = omega arith;
          least = omega arith;
          most = omega arith;
        }

-- ---- fractions that the format has

-- 2 ^ i * 2 ^ e is 2 ^ j times the smallest value, 2 ^ -149
whole_power : (i : ℕ) (e : ℤ) → down e ≤ 2 ^ 149 → (j : ℕ) × (2 ^ i * up e * 2 ^ 149 ≡ 2 ^ j * down e)
whole_power i (pos p) h = (i + p + 149, sym (mul-one (2 ^ (i + p + 149)) ∙ pow-add 2 (i + p) 149 ∙ ap (λ (n : ℕ). n * 2 ^ 149) (pow-add 2 i p)))
whole_power i (negsuc p) h = (
  i + (149 - suc p),
  ap (λ (n : ℕ). n * 2 ^ 149) (mul-one (2 ^ i))
      ∙ sym (ap (λ (n : ℕ). n * 2 ^ suc p) (pow-add 2 i (149 - suc p)) ∙ mul_assoc (2 ^ i) (2 ^ (149 - suc p)) (2 ^ suc p) ∙ ap (λ (n : ℕ). 2 ^ i * n) rejoined),
)
  where
    fine : suc p ≤ 149
    fine = le_of_suc-le-suc (lt_of_not-le (λ (l : 150 ≤ suc p). not-le_of_lt (pow-lt l) h))

    sums : 149 - suc p + suc p ≡ 149
    sums = omega (arith, fine)

    rejoined : 2 ^ (149 - suc p) * 2 ^ suc p ≡ 2 ^ 149
    rejoined = sym (pow-add 2 (149 - suc p) (suc p)) ∙ ap (λ (n : ℕ). 2 ^ n) sums

-- q * 2 ^ i * 2 ^ e, with a q of 24 digits, and far below the largest values
exact_power : (q i : ℕ) (e : ℤ) → q < 2 ^ 24 → down e ≤ 2 ^ 149 → q * 2 ^ i * up e ≤ 2 ^ 30 * down e → Exact (q * 2 ^ i * up e) (down e)
exact_power q i e Q F M = go (whole_power i e F)
  where
    go : (j : ℕ) × (2 ^ i * up e * 2 ^ 149 ≡ 2 ^ j * down e) → Exact (q * 2 ^ i * up e) (down e)
    go (j, w) =
        let is : q * 2 ^ i * up e * 2 ^ 149 ≡ q * 2 ^ j * down e =
        ap (λ (n : ℕ). n * 2 ^ 149) (mul_assoc q (2 ^ i) (up e)) ∙ mul_assoc q (2 ^ i * up e) (2 ^ 149) ∙ ap (λ (n : ℕ). q * n) w ∙ sym (mul_assoc q (2 ^ j) (down e)) in
        let small : q * 2 ^ j ≤ 2 ^ 30 * 2 ^ 149 =
        le_of_mul-le-mul_right (le_trans (le_of_eq (sym is)) (le_trans (mul-le-mul_right (2 ^ 149) M) (le_of_eq (mul_right_comm (2 ^ 30) (down e) (2 ^ 149))))) (down_pos e) in
        round_exact binary32 false (q * 2 ^ i * up e) (down e) q j (down_pos e) Q (lt_of_le_of_lt small (lit< tt)) is

-- r + 1/2
exact_half : (r : ℕ) → r ≤ 254 → Exact (2 * r + 1) 2
exact_half r R =
    let l : 2 * r + 1 < 2 ^ 24 = omega arith in
    round_exact binary32 false (2 * r + 1) 2 (2 * r + 1) 148 (pow_pos 1) l (lt_of_lt_of_le (shl_lt 24 148 l) (lit≤ tt)) (sym (mul_assoc (2 * r + 1) (2 ^ 148) 2))

-- ---- the product and the quotient

-- r times k * 2 ^ e, which is at most b / d
product : (x : Float) (r k : ℕ) (e : ℤ) (b d : ℕ) → HasValue x false r 1 → 0 < d → r * (k * up e) * d ≤ b * down e → Exact b d
    → Capped (mul binary32 x (fin false k e)) b d
unfolding mul
product nan r k e b d v D h w = absurd v
product (inf s) r k e b d v D h w = absurd v
product (fin true q g) r k e b d v D h w = absurd (true≢false v.0)
product (fin false q g) r k e b d v D h w =
    round_capped (q * up g * (k * up e)) (down g * down e) b d (mul-pos (down_pos g) (down_pos e)) D
    (scaled (q * up g) (down g) r (k * up e) d b (down e) v.1 h)
    w
  where
    scaled : (t p r n d b c : ℕ) → t * 1 ≡ r * p → r * n * d ≤ b * c → t * n * d ≤ b * (p * c)
    scaled t p r n d b c f h =
        le_trans (le_of_eq (ap (λ (k : ℕ). k * n * d) (sym (mul-one t) ∙ f) ∙ simp (mul_assoc, mul_comm)))
        (le_trans (mul-le-mul_left p h) (le_of_eq (mul_left_comm p b c)))

apart : {n : ℕ} → 0 < n → n ≡ 0 → ⊥
apart p z = omega arith

-- x over l * 2 ^ g, where x is at most b * 2 ^ g, and b at most (r + 1/2) l
quotient : (x : Float) (r b l : ℕ) (g : ℤ) → r ≤ 254 → 0 < l → Capped x (b * up g) (down g) → 2 * b ≤ (2 * r + 1) * l
    → Capped (div binary32 x (fin false l g)) (2 * r + 1) 2
unfolding div
quotient x r b l g R L c h =
    subst (λ (y : Float). Capped (div binary32 y (fin false l g)) (2 * r + 1) 2) (sym c.is) (at (eqb l 0) c.digits c.power (ne_eqb l 0 (apart L)) c.most)
  where
    scaled : (t p u d : ℕ) → t * d ≤ b * u * p → t * d * 2 ≤ (2 * r + 1) * (l * u * p)
    scaled t p u d k =
        le_trans (mul-le-mul_right 2 k)
        (le_trans (le_of_eq (mul_comm (b * u * p) 2 ∙ ap (λ (n : ℕ). 2 * n) (mul_assoc b u p) ∙ sym (mul_assoc 2 b (u * p))))
        (le_trans (mul-le-mul_right (u * p) h) (le_of_eq (mul_assoc (2 * r + 1) l (u * p) ∙ ap (λ (n : ℕ). (2 * r + 1) * n) (sym (mul_assoc l u p))))))

    at : (none : Bool) (m : ℕ) (e : ℤ) → none ≡ false → m * up e * down g ≤ b * up g * down e
        → Capped (cond none (cond (eqb m 0) nan (inf false)) (round binary32 false (m * up e * down g) (l * up g * down e))) (2 * r + 1) 2
    at true m e f k = absurd (true≢false f)
    at false m e f k =
        round_capped (m * up e * down g) (l * up g * down e) (2 * r + 1) 2 (mul-pos (mul-pos L (up_pos g)) (down_pos e)) (pow_pos 1)
        (scaled (m * up e) (down e) (up g) (down g) k)
        (exact_half r R)

-- ---- the whole part

-- the whole part of x is a number, and at most r
abbrev UpTo : ℕ → Float → Type 0
UpTo r x = (n : ℕ) × (trunc_of x ≡ Ok (pos n)) × (n ≤ r)

-- a value of at most r + 1/2
cut : (r : ℕ) (x : Float) → r ≤ 254 → Capped x (2 * r + 1) 2 → UpTo r x
unfolding trunc_of
cut r x R c = subst (UpTo r) (sym c.is) (at (c.digits * up c.power) (down c.power) (down_pos c.power) c.most)
  where
    under : (n d : ℕ) → 0 < d → n * 2 ≤ (2 * r + 1) * d → n < suc r * d
    under n d D h = let e = twice r d in let f = suc-mul r d in omega arith

    at : (n d : ℕ) → 0 < d → n * 2 ≤ (2 * r + 1) * d
        → (k : ℕ) × (pick_whole (ltb n (limit * d)) (Ok (pos (n / d))) (Err TooLarge) ≡ Ok (pos k)) × (k ≤ r)
    at n d D h =
        let l : n < suc r * d = under n d D h in
        let small : suc r ≤ limit = omega arith in (
          n / d,
          ap (λ (b : Bool). pick_whole b (Ok (pos (n / d))) (Err TooLarge)) (lt-ltb n (limit * d) (lt_of_lt_of_le l (mul-le-mul_right d small))),
          le_of_suc-le-suc ((div-lt_iff_lt-mul D).1 l),
        )

-- what the format says of a number that is not 0: its digits are 24 at most, and its denominator 2 ^ 149 at most
held_digits : (s : Bool) (m : ℕ) (e : ℤ) → 0 < m → T (fits binary32 (fin s m e)) → (m < 2 ^ 24) × (down e ≤ 2 ^ 149)
unfolding fits
held_digits s zero e p h = absurd (lt_irrefl 0 p)
held_digits s (suc m) e p h =
    let odd = eqb (suc m % 2) 1 in
    let few = ltb (suc m) (2 ^ 24) in
    let fine = leb (down e) (2 ^ 149) in
    let f : T (odd && few && fine) = and_l (odd && few && fine) (ltb (suc m * up e) (2 ^ 128 * down e)) h in
    (ltb→lt (suc m) (2 ^ 24) (and_r odd few (and_l (odd && few) fine f)), leb→le (down e) (2 ^ 149) (and_r (odd && few) fine f))

-- not below 2 ^ -10, so not 0 and with no sign
not_none : (t : Bool) (l : ℕ) (g : ℤ) → lt (fin t l g) (fin false 1 (negsuc 9)) ≡ false → (t ≡ false) × (0 < l)
unfolding lt
not_none true l g h = absurd (clash (l * up g * 2 ^ 10) (down g) (down_pos g) (ltb-false 0 (l * up g * 2 ^ 10 + 1 * 1 * down g) h))
  where
    clash : (n d : ℕ) → 0 < d → n + 1 * 1 * d ≤ 0 → ⊥
    clash n d D h = omega arith
not_none false l g h =
    let k : 1 * 1 * down g ≤ l * up g * 2 ^ 10 = ltb-false (l * up g * 2 ^ 10) (1 * 1 * down g) h in
    (refl, first_pos l (up g) (first_pos (l * up g) (2 ^ 10) (lt_of_lt_of_le (down_pos g) (le_trans (le_of_eq (sym (one-mul (down g)))) k))))

-- (r d) / m of a d with no sign: d = k * 2 ^ e, m = l * 2 ^ g
plain_ratio : (r k : ℕ) (e : ℤ) (l : ℕ) (g : ℤ) → r ≤ 254 → 0 < l → T (fits binary32 (fin false l g)) → l * up g ≤ 2 ^ 21 * down g
    → k * up e * down g ≤ l * up g * down e
    → UpTo r (div binary32 (mul binary32 (of_int binary32 (pos r)) (fin false k e)) (fin false l g))
unfolding of_int
plain_ratio r k e l g R L F M h =
    let fine = held_digits false l g L F in
    let o = next_over r l R fine.0 in
    let q = o.digits * 2 ^ o.shift in
    cut r (div binary32 (mul binary32 (round binary32 false r 1) (fin false k e)) (fin false l g)) R
    (quotient (mul binary32 (round binary32 false r 1) (fin false k e)) r q l g R L
    (product (round binary32 false r 1) r k e (q * up g) (down g) (round_whole binary32 false r (le_trans R (lit≤ tt))) (down_pos g)
    (times r (k * up e) (down g) l (up g) (down e) q h o.least)
    (exact_power o.digits o.shift g o.small fine.1 (bound r q l (up g) (down g) R M o.most)))
    o.most)
  where
    times : (r n d l u c q : ℕ) → n * d ≤ l * u * c → r * l ≤ q → r * n * d ≤ q * u * c
    times r n d l u c q h k =
        le_trans (le_of_eq (mul_assoc r n d))
        (le_trans (mul-le-mul_left r h)
        (le_trans (le_of_eq (ap (λ (x : ℕ). r * x) (mul_assoc l u c) ∙ sym (mul_assoc r l (u * c))))
        (le_trans (mul-le-mul_right (u * c) k) (le_of_eq (sym (mul_assoc q u c))))))

    bound : (r q l u d : ℕ) → r ≤ 254 → l * u ≤ 2 ^ 21 * d → 2 * q ≤ (2 * r + 1) * l → q * u ≤ 2 ^ 30 * d
    bound r q l u d R M h =
        let f : 2 * r + 1 ≤ 512 = omega arith in
        let a : 2 * q * u ≤ 512 * l * u = mul-le-mul_right u (le_trans h (mul-le-mul_right l f)) in
        let b : 2 * (q * u) ≤ 512 * (l * u) = le_trans (le_of_eq (sym (mul_assoc 2 q u))) (le_trans a (le_of_eq (mul_assoc 512 l u))) in
        omega arith

-- (r d) / m where d is -0: the product and the quotient are -0
mul_none : (x : Float) (r : ℕ) (e : ℤ) → HasValue x false r 1 → mul binary32 x (fin true 0 e) ≡ fin true 0 (pos 0)
unfolding mul
mul_none nan r e v = absurd v
mul_none (inf s) r e v = absurd v
mul_none (fin true q g) r e v = absurd (true≢false v.0)
mul_none (fin false q g) r e v =
    ap (λ (n : ℕ). round binary32 true n (down g * down e)) (ap (λ (n : ℕ). q * up g * n) (zero-mul (up e)) ∙ mul-zero (q * up g))
    ∙ round_none true (down g * down e) (mul-pos (down_pos g) (down_pos e))

div_none : (e : ℤ) (l : ℕ) (g : ℤ) → 0 < l → div binary32 (fin true 0 e) (fin false l g) ≡ fin true 0 (pos 0)
unfolding div
div_none e l g L =
    ap (λ (t : Bool). cond t nan (round binary32 true (0 * up e * down g) (l * up g * down e))) (ne_eqb l 0 (apart L))
    ∙ ap (λ (n : ℕ). round binary32 true n (l * up g * down e)) (ap (λ (n : ℕ). n * down g) (zero-mul (up e)) ∙ zero-mul (down g))
    ∙ round_none true (l * up g * down e) (mul-pos (mul-pos L (up_pos g)) (down_pos e))

none_cut : (r : ℕ) → UpTo r (fin true 0 (pos 0))
unfolding trunc_of
none_cut r = (0, refl, zero-le)

none_ratio : (r : ℕ) (e : ℤ) (l : ℕ) (g : ℤ) → r ≤ 254 → 0 < l → UpTo r (div binary32 (mul binary32 (of_int binary32 (pos r)) (fin true 0 e)) (fin false l g))
unfolding of_int
none_ratio r e l g R L =
    subst (λ (x : Float). UpTo r (div binary32 x (fin false l g))) (sym (mul_none (round binary32 false r 1) r e (round_whole binary32 false r (le_trans R (lit≤ tt)))))
    (subst (UpTo r) (sym (div_none (pos 0) l g L)) (none_cut r))

-- of the two kinds of d that an extent has
any_ratio : (r : ℕ) (s : Bool) (k : ℕ) (e : ℤ) (t : Bool) (l : ℕ) (g : ℤ) → r ≤ 254 → (s ≡ false) ⊎ (k ≡ 0) → (t ≡ false) × (0 < l)
    → T (fits binary32 (fin t l g)) → l * up g ≤ 2 ^ 21 * down g → le (fin s k e) (fin t l g) ≡ true
    → UpTo r (div binary32 (mul binary32 (of_int binary32 (pos r)) (fin s k e)) (fin t l g))
unfolding le
any_ratio r s k e true l g R p n F M h = absurd (true≢false n.0)
any_ratio r false k e false l g R p n F M h = plain_ratio r k e l g R n.1 F M (in_order (k * up e * down g) (l * up g * down e) (subst T (sym h) tt))
any_ratio r true k e false l g R (inl f) n F M h = absurd (true≢false f)
any_ratio r true k e false l g R (inr z) n F M h =
    subst (λ (i : ℕ). UpTo r (div binary32 (mul binary32 (of_int binary32 (pos r)) (fin true i e)) (fin false l g))) (sym z) (none_ratio r e l g R n.1)

-- (r d) / m, each operation rounded once, has a whole part of at most r where d is at most m
pub whole_part : (r : ℕ) → r ≤ 254 → (d m : Float) → Extent d → Extent m → le d m ≡ true → lt m (fin false 1 (negsuc 9)) ≡ false
    → (n : ℕ) × (trunc_of (div binary32 (mul binary32 (of_int binary32 (pos r)) d) m) ≡ Ok (pos n)) × (n ≤ r)
whole_part r R d m D M h k =
    rw (D.is, M.is)
    (any_ratio r D.sign D.digits D.power M.sign M.digits M.power R D.plus
    (not_none M.sign M.digits M.power (rw M.is at k))
    (rw M.is at M.held) M.most (rw (D.is, M.is) at h))

-- ---- an extent over a cell size

-- 2 ^ 31 is a value of the format
exact_most : Exact (2 ^ 31) 1
exact_most = round_exact binary32 false (2 ^ 31) 1 1 180 (pow_pos 0) (lit< tt) (lit< tt) refl

-- the ceiling of a value that has no sign, and is under the limit, is a count
count_up : (n d : ℕ) → (k : ℕ) × (neg_ℤ (floor_z (neg_ℤ (pos n)) d) ≡ pos k)
count_up zero d = (0, ap (λ (k : ℕ). neg_ℤ (pos k)) (zero-div d))
count_up (suc n) d = (suc (n / d), refl)

lifted : (x : Float) → Capped x (2 ^ 31) 1 → (n : ℕ) × (ceil_of x ≡ Ok (pos n))
unfolding ceil_of
lifted x c = subst (λ (y : Float). (n : ℕ) × (ceil_of y ≡ Ok (pos n))) (sym c.is) (at (c.digits * up c.power) (down c.power) (down_pos c.power) c.most)
  where
    at : (n d : ℕ) → 0 < d → n * 1 ≤ 2 ^ 31 * d → (k : ℕ) × (pick_whole (ltb n (limit * d)) (Ok (neg_ℤ (floor_z (neg_ℤ (pos n)) d))) (Err TooLarge) ≡ Ok (pos k))
    at n d D h =
        let l : n < limit * d = omega arith in
        let w = count_up n d in
        (w.0, ap (λ (b : Bool). pick_whole b (Ok (neg_ℤ (floor_z (neg_ℤ (pos n)) d))) (Err TooLarge)) (lt-ltb n (limit * d) l) ∙ ap Ok w.1)

-- k * 2 ^ e, at most 2 ^ 21, over l * 2 ^ g, at least 2 ^ -10
plain_size : (k : ℕ) (e : ℤ) (l : ℕ) (g : ℤ) → 0 < l → k * up e ≤ 2 ^ 21 * down e → down g ≤ l * up g * 2 ^ 10 → Capped (div binary32 (fin false k e) (fin false l g)) (2 ^ 31) 1
unfolding div
plain_size k e l g L h m = at (eqb l 0) (ne_eqb l 0 (apart L))
  where
    bound : (a b c d : ℕ) → a ≤ 2 ^ 21 * b → c ≤ d * 2 ^ 10 → a * c * 1 ≤ 2 ^ 31 * (d * b)
    bound a b c d h m =
        let p : a * c ≤ 2 ^ 21 * b * (d * 2 ^ 10) = le_trans (mul-le-mul_right c h) (mul-le-mul_left (2 ^ 21 * b) m) in
        let q : 2 ^ 21 * b * (d * 2 ^ 10) ≡ 2 ^ 31 * (d * b) = simp (mul_assoc, mul_comm, mul_left_comm) in
        le_trans (le_of_eq (mul-one (a * c))) (le_trans p (le_of_eq q))

    at : (none : Bool) → none ≡ false → Capped (cond none (cond (eqb k 0) nan (inf false)) (round binary32 false (k * up e * down g) (l * up g * down e))) (2 ^ 31) 1
    at true f = absurd (true≢false f)
    at false f =
        round_capped (k * up e * down g) (l * up g * down e) (2 ^ 31) 1 (mul-pos (mul-pos L (up_pos g)) (down_pos e)) (pow_pos 0)
        (bound (k * up e) (down e) (down g) (l * up g) h m)
        exact_most

none_lifted : (n : ℕ) × (ceil_of (fin true 0 (pos 0)) ≡ Ok (pos n))
unfolding ceil_of
none_lifted = (0, refl)

-- d / size, rounded once, of a size from 2 ^ -10 to 2 ^ 20: its ceiling is a count, never too large and never a NaN's
pub whole_quotient : (d size : Float) → Extent d → le (fin false 1 (negsuc 9)) size ≡ true → le size (fin false 1 (pos 20)) ≡ true
    → (n : ℕ) × (ceil_of (div binary32 d size) ≡ Ok (pos n))
unfolding le
whole_quotient d nan D p q = absurd (false≢true p)
whole_quotient d (inf true) D p q = absurd (false≢true p)
whole_quotient d (inf false) D p q = absurd (false≢true q)
whole_quotient d (fin true l g) D p q = absurd (true≢false (not_none true l g (le_not (fin false 1 (negsuc 9)) (fin true l g) tt tt p)).0)
whole_quotient d (fin false l g) D p q =
    subst (λ (x : Float). (n : ℕ) × (ceil_of (div binary32 x (fin false l g)) ≡ Ok (pos n))) (sym D.is) (at D.sign D.digits D.power D.plus D.most)
  where
    some : 0 < l
    some = (not_none false l g (le_not (fin false 1 (negsuc 9)) (fin false l g) tt tt p)).1

    least : down g ≤ l * up g * 2 ^ 10
    least = le_trans (le_of_eq (sym (one-mul (down g)))) (in_order (1 * 1 * down g) (l * up g * 2 ^ 10) (subst T (sym p) tt))

    at : (s : Bool) (k : ℕ) (e : ℤ) → (s ≡ false) ⊎ (k ≡ 0) → k * up e ≤ 2 ^ 21 * down e → (n : ℕ) × (ceil_of (div binary32 (fin s k e) (fin false l g)) ≡ Ok (pos n))
    at false k e c h = lifted (div binary32 (fin false k e) (fin false l g)) (plain_size k e l g some h least)
    at true k e (inl f) h = absurd (true≢false f)
    at true k e (inr z) h =
        subst (λ (i : ℕ). (n : ℕ) × (ceil_of (div binary32 (fin true i e) (fin false l g)) ≡ Ok (pos n))) (sym z)
        (subst (λ (x : Float). (n : ℕ) × (ceil_of x ≡ Ok (pos n))) (sym (div_none e l g some)) none_lifted)
