-- A coordinate (p - lo) * (1 / s), each operation rounded once, of a p from lo to hi: where hi - lo over s is at most n + 1/8, it falls on one of n + 1 cells (`spanned_on`). Assumes nothing.
use Rattle.std.specs.Prelude.{Ok, Err}
use mathlib.Core.Path.{◌≡◌, refl, sym, ap, ◌∙◌, subst}
use mathlib.Core.Logic.{◌⊎◌, inl, inr, ⊎_elim}
use mathlib.Core.Bool.{Bool, true, false, not, cond, ◌&&◌, ◌||◌, true≢false, false≢true}
use Prim.Native.Nat.{ℕ, suc, ◌+◌, ◌-◌, ◌*◌, ◌/◌, ◌^◌, ◌≤◌, ◌<◌}
use native.Mathlib.Nat.{le_trans, le_of_eq, mul-le-mul, mul-pos, mul-one, one-mul, zero-mul, mul_right_comm, mul-le-mul_right, le_of_mul-le-mul_right, div-lt_iff_lt-mul}
use native.Mathlib.Omega.{arith}
use lib.Dec.{T, ltb, eqb, leb→le, lit≤}
use lib.IntN.{ℤ, pos}
use lib.Ieee.{Float, nan, inf, fin, binary32, up, down, round, sum, neg, sub, mul, div, le, below, level}
use lib.Ieee.Fits.{down_pos}
use lib.Ieee.Order.{round_mono}
use lib.Ieee.Scale.{finite}
use lib.Ieee.Positive.{num, den, den_pos}
use Prim.Native.Nat.{zero-le}
use borrow.Author.Tests.{ltb-false, leb-true, eqb-true, lt-ltb, le-ltb, le-leb}
use Rattle.grid.proofs.First.{both_true}
use Rattle.numbers.specs.declared.NoWhole.TheVariants.{TooLarge}
use Rattle.numbers.specs.Rounding.{units, half, limit, pick_whole, nearest_of}
use Rattle.numbers.proofs.Order.{eqb_sym, le_test}
use Rattle.numbers.proofs.Sign.{round_negated, round_none, sub_mul}
use Rattle.sizing.specs.Points.{bounded}
use Rattle.sizing.proofs.Ranges.{extent_finite}
use Rattle.sizing.proofs.Ratio.{Extent, difference}
use Rattle.marking_mesh.specs.Mesh.{whole_units, units_at, on_axis}
use Rattle.marking_laid.proofs.Near.{plain, Near, near_finite, near, div_is, mul_near}

-- ---- a coordinate e * (1 / s), where e is at most d, and d over s is at most n + 1/8: it is at most n + 1/4

-- t is at most n + 1/4
record Under (n : ℕ) (t : Float) : Type 0 where
  is_plain : T (plain t)
  most : num t * 4 ≤ (4 * n + 1) * den t

-- 1 / s, rounded
abbrev pub inverse : Float → Float
inverse s = div binary32 (fin false 1 (pos 0)) s

-- it is near the exact one
pub over_near : (s : Float) → T (plain s) → den s ≤ 2 ^ 20 * num s → 0 < num s → Near (inverse s) (den s) (num s)
over_near s p h k =
    subst (λ (z : Float). Near z (den s) (num s))
    (sym (div_is (fin false 1 (pos 0)) s tt p k ∙ (λ t. round binary32 false (one-mul (den s) t) (mul-one (num s) t))))
    (near (den s) (num s) k (omega arith))

-- c / r, which is q / s rounded, is over it by 2 ^ -17 of it at most
pub little : (c r s q : ℕ) → s ≤ 2 ^ 22 * q → c * s * 2 ^ 40 ≤ (q * (2 ^ 40 + 2 ^ 20) + s) * r → c * s * 2 ^ 17 ≤ q * (2 ^ 17 + 1) * r
little c r s q l h = let k = mul-le-mul_right r l in omega arith

-- e / p * (c / r), where e / p is at most d / o
pub times : (n e p d o c r s q : ℕ) → n ≤ 255 → 0 < s → 0 < o → e * o ≤ d * p → c * s * 2 ^ 17 ≤ q * (2 ^ 17 + 1) * r → d * q * 8 ≤ (8 * n + 1) * (s * o)
    → e * c * 16 ≤ (16 * n + 3) * (p * r)
times n e p d o c r s q N S O h k l =
    let a : e * o * (c * s * 2 ^ 17) ≤ d * p * (q * (2 ^ 17 + 1) * r) = mul-le-mul h k in
    let b = mul-le-mul_right (p * r) l in
    let m = mul-le-mul_right (s * o * (p * r)) N in
    le_of_mul-le-mul_right {k = s * o} (omega arith) (mul-pos S O)

-- v / m rounded to t / r
rounded_under : (n v m t r : ℕ) → n ≤ 255 → 0 < m → v * 16 ≤ (16 * n + 3) * m → t * m * 2 ^ 40 ≤ (v * (2 ^ 40 + 2 ^ 20) + m) * r → t * 4 ≤ (4 * n + 1) * r
rounded_under n v m t r N M h k =
    let a = mul-le-mul_right r h in
    let b = mul-le-mul_right (m * r) N in
    le_of_mul-le-mul_right {k = m} (omega arith) M

-- so the coordinate is at most n + 1/4
coordinate : (n : ℕ) (e s : Float) (d o : ℕ) → n ≤ 255 → T (plain e) → T (plain s) → den s ≤ 2 ^ 20 * num s → num s ≤ 2 ^ 22 * den s → 0 < o → num e * o ≤ d * den e
    → d * den s * 8 ≤ (8 * n + 1) * (num s * o)
    → Under n (mul binary32 e (inverse s))
coordinate n e s d o N E S least most O h k =
    let y = inverse s in
    let D = den_pos s in
    let P : 0 < num s = omega arith in
    let w = over_near s S least P in
    let v = times n (num e) (den e) d o (num y) (den y) (num s) (den s) N P O h (little (num y) (den y) (num s) (den s) most w.over) k in
    let z = mul_near e y E w.is_plain (high n (num e * num y) (den e * den y) N v) in record {
      is_plain = z.is_plain;
      most = rounded_under n (num e * num y) (den e * den y) (num (mul binary32 e y)) (den (mul binary32 e y)) N (mul-pos (den_pos e) (den_pos y)) v z.over;
    }
  where
    high : (n v m : ℕ) → n ≤ 255 → v * 16 ≤ (16 * n + 3) * m → v ≤ 2 ^ 60 * m
    high n v m N h = let a = mul-le-mul_right m N in omega arith

-- ---- its cell

-- the cell of t / d at most n + 1/4 is at most n, for h units to half a side
below_cells : (h n t d : ℕ) → 2 ≤ h → 0 < d → t * 4 ≤ (4 * n + 1) * d → ((2 * (2 * h) * t + d) / (2 * d) + h) / (2 * h) < suc n
below_cells h n t d H D l =
    let a = mul-le-mul_right h l in
    let b = mul-le-mul_right d H in
    let e : 2 * (2 * h) * t + d < (n * (2 * h) + h) * (2 * d) = omega arith in
    let f : (2 * (2 * h) * t + d) / (2 * d) < n * (2 * h) + h = (div-lt_iff_lt-mul {k = 2 * d} (omega arith)).1 e in
    let g : (2 * (2 * h) * t + d) / (2 * d) + h < suc n * (2 * h) = omega arith in
    (div-lt_iff_lt-mul {k = 2 * h} (omega arith)).1 g

-- so such a coordinate falls on one of n + 1 cells
on_cells : (n : ℕ) (t : Float) → n ≤ 255 → Under n t → on_axis (suc n) (whole_units (nearest_of units t)) ≡ true
unfolding on_axis whole_units nearest_of
on_cells n nan N u = absurd u.is_plain
on_cells n (inf s) N u = absurd u.is_plain
on_cells n (fin true m e) N u = absurd u.is_plain
on_cells n (fin false m e) N u =
    ap (λ (b : Bool). on_axis (suc n) (whole_units (pick_whole b (Ok (pos ((2 * units * (m * up e) + down e) / (2 * down e)))) (Err TooLarge)))) (lt-ltb (m * up e) (limit * down e) (low n (m * up e) (down e) N (down_pos e) u.most))
    ∙ (λ t. le-leb 0 (((2 * units * (m * up e) + down e) / (2 * down e) + half) / units) zero-le t && lt-ltb (((2 * units * (m * up e) + down e) / (2 * down e) + half) / units) (suc n) (below_cells half n (m * up e) (down e) (lit≤ tt) (down_pos e) u.most) t)
  where
    low : (n t d : ℕ) → n ≤ 255 → 0 < d → t * 4 ≤ (4 * n + 1) * d → t < 2 ^ 40 * d
    low n t d N D h = let a = mul-le-mul_right d N in omega arith

-- ---- of three numbers in order, the differences from the first are in order

-- ±a is at most ±b
abbrev Ordered : Bool → ℕ → Bool → ℕ → Type 0
Ordered false a false b = a ≤ b
Ordered false a true b = (a ≡ 0) × (b ≡ 0)
Ordered true a false b = Unit
Ordered true a true b = b ≤ a

-- as the tests have it
ordered : (s : Bool) (a : ℕ) (t : Bool) (b : ℕ) → (below s a t b || level s a t b) ≡ true → Ordered s a t b
ordered false a false b h = leb-true a b (sym (le_test a b) ∙ h)
ordered false a true b h =
    let p : a ≡ b = eqb-true a b (both_true (eqb a b) (eqb a 0) h).0 in
    let q : a ≡ 0 = eqb-true a 0 (both_true (eqb a b) (eqb a 0) h).1 in
    (q, sym p ∙ q)
ordered true a false b h = tt
ordered true a true b h = leb-true b a (sym (ap (λ (e : Bool). ltb b a || (e && true)) (eqb_sym a b) ∙ le_test b a) ∙ h)

-- the size of ±a less ±b
abbrev gap : Bool → ℕ → Bool → ℕ → ℕ
gap false a false b = a - b
gap false a true b = a + b
gap true a false b = a + b
gap true a true b = b - a

-- of ±z, ±x and ±y in order
gap_more : (u : Bool) (z : ℕ) (s : Bool) (x : ℕ) (t : Bool) (y : ℕ) → Ordered u z s x → Ordered s x t y → gap s x u z ≤ gap t y u z
gap_more false z false x false y h k = omega arith
gap_more false z false x true y h k = omega (arith, k.0)
gap_more false z true x t y h k = le_trans (le_of_eq (none z x h.0 h.1)) zero-le
  where
    none : (z x : ℕ) → z ≡ 0 → x ≡ 0 → x + z ≡ 0
    none z x p q = omega arith
gap_more true z false x false y h k = omega arith
gap_more true z false x true y h k = omega (arith, k.0, k.1)
gap_more true z true x false y h k = omega arith
gap_more true z true x true y h k = omega arith

-- a common factor of both sizes
gap_scaled : (s : Bool) (a : ℕ) (t : Bool) (b k : ℕ) → gap s a t b * k ≡ gap s (a * k) t (b * k)
gap_scaled false a false b k = sub_mul a b k
gap_scaled false a true b k = omega arith
gap_scaled true a false b k = omega arith
gap_scaled true a true b k = sub_mul b a k

-- changes no order
ordered_scaled : (s : Bool) (a : ℕ) (t : Bool) (b k : ℕ) → Ordered s a t b → Ordered s (a * k) t (b * k)
ordered_scaled false a false b k h = mul-le-mul_right k h
ordered_scaled false a true b k h = (ap (λ (n : ℕ). n * k) h.0 ∙ zero-mul k, ap (λ (n : ℕ). n * k) h.1 ∙ zero-mul k)
ordered_scaled true a false b k h = tt
ordered_scaled true a true b k h = mul-le-mul_right k h

-- the same of fractions: ±l / o, ±x / p and ±y / q
gap_fractions : (u : Bool) (l o : ℕ) (s : Bool) (x p : ℕ) (t : Bool) (y q : ℕ) → Ordered u (l * p) s (x * o) → Ordered s (x * q) t (y * p)
    → gap s (x * o) u (l * p) * (q * o) ≤ gap t (y * o) u (l * q) * (p * o)
gap_fractions u l o s x p t y q h k =
    let a : Ordered u (l * p * q) s (x * o * q) = ordered_scaled u (l * p) s (x * o) q h in
    let b : Ordered s (x * o * q) t (y * o * p) = rw (mul_right_comm x o q, mul_right_comm y o p) (ordered_scaled s (x * q) t (y * p) o k) in
    let c : gap s (x * o * q) u (l * p * q) ≤ gap t (y * o * p) u (l * p * q) = gap_more u (l * p * q) s (x * o * q) t (y * o * p) a b in
    let d : gap s (x * o) u (l * p) * q ≤ gap t (y * o) u (l * q) * p = rw (gap_scaled s (x * o) u (l * p) q, gap_scaled t (y * o) u (l * q) p, mul_right_comm l q p) c in
    let e = mul-le-mul_right o d in
    omega arith

-- the difference is the gap rounded, with some sign
sum_gap : (s : Bool) (a : ℕ) (u : Bool) (b c : ℕ) → Ordered u b s a → (w : Bool) × (sum binary32 s a (not u) b c ≡ round binary32 w (gap s a u b) c)
unfolding sum
sum_gap false a true b c h = (false, refl)
sum_gap true a false b c h = (true, refl)
sum_gap false a false b c h = (false, ap (λ (t : Bool). cond t (round binary32 true (b - a) c) (round binary32 false (a - b) c)) (le-ltb a b h))
sum_gap true a true b c h = go (ltb a b) refl
  where
    none : (a b : ℕ) → a ≤ b → b ≤ a → a - b ≡ b - a
    none a b h k = omega arith

    go : (t : Bool) → ltb a b ≡ t → (w : Bool) × (cond t (round binary32 false (b - a) c) (round binary32 (ltb b a) (a - b) c) ≡ round binary32 w (b - a) c)
    go true e = (false, refl)
    go false e = (ltb b a, ap (λ (n : ℕ). round binary32 (ltb b a) n c) (none a b h (ltb-false a b e)))

-- x is at most y in size
abbrev AtMost : Float → Float → Type 0
AtMost x y = num x * den y ≤ num y * den x

-- as the test has it
pub le_at_most : (x y : Float) → T (plain x) → T (plain y) → T (le x y) → AtMost x y
unfolding le
le_at_most nan y p q h = absurd p
le_at_most (inf s) y p q h = absurd p
le_at_most (fin true m e) y p q h = absurd p
le_at_most (fin false m e) nan p q h = absurd q
le_at_most (fin false m e) (inf t) p q h = absurd q
le_at_most (fin false m e) (fin true n g) p q h = absurd q
le_at_most (fin false m e) (fin false n g) p q h = leb→le (m * up e * down g) (n * up g * down e) (subst T (le_test (m * up e * down g) (n * up g * down e)) h)

-- of one size
record Alike (x y : Float) : Type 0 where
  nums : num x ≡ num y
  dens : den x ≡ den y
  finites : finite x ≡ finite y

-- as a number is with either sign
neg_alike : (x : Float) → Alike (neg x) x
unfolding neg
neg_alike nan = record { nums = refl; dens = refl; finites = refl }
neg_alike (inf s) = record { nums = refl; dens = refl; finites = refl }
neg_alike (fin s m e) = record { nums = refl; dens = refl; finites = refl }

-- and a fraction rounded with either sign
round_alike : (w : Bool) (a c : ℕ) → Alike (round binary32 w a c) (round binary32 false a c)
round_alike false a c = record { nums = refl; dens = refl; finites = refl }
round_alike true a c = rw (round_negated binary32 a c) (neg_alike (round binary32 false a c))

-- fractions in order, rounded with any signs
round_at_most : (v w : Bool) (a c b d : ℕ) → 0 < c → 0 < d → a * d ≤ b * c → T (finite (round binary32 v a c)) → T (finite (round binary32 w b d))
    → AtMost (round binary32 v a c) (round binary32 w b d)
round_at_most v w a c b d C D h f g =
    let x = round_alike v a c in
    let y = round_alike w b d in
    rw (x.nums, x.dens, y.nums, y.dens)
    (le_at_most (round binary32 false a c) (round binary32 false b d)
    (near_finite a c C (subst T x.finites f)).is_plain
    (near_finite b d D (subst T y.finites g)).is_plain
    (round_mono binary32 a c b d C D h))

-- lo, p and hi in order: p less lo is at most hi less lo
differences : (lo p hi : Float) → bounded 20 lo ≡ true → bounded 20 p ≡ true → bounded 20 hi ≡ true → le lo p ≡ true → le p hi ≡ true → le lo hi ≡ true
    → T (finite (sub binary32 p lo)) → T (finite (sub binary32 hi lo)) → AtMost (sub binary32 p lo) (sub binary32 hi lo)
unfolding bounded le sub
differences nan p hi L P H lp ph lh f g = absurd (false≢true L)
differences (inf u) p hi L P H lp ph lh f g = absurd (false≢true L)
differences (fin u l o) nan hi L P H lp ph lh f g = absurd (false≢true P)
differences (fin u l o) (inf s) hi L P H lp ph lh f g = absurd (false≢true P)
differences (fin u l o) (fin s m e) nan L P H lp ph lh f g = absurd (false≢true H)
differences (fin u l o) (fin s m e) (inf t) L P H lp ph lh f g = absurd (false≢true H)
differences (fin u l o) (fin s m e) (fin t n q) L P H lp ph lh f g =
    let a = l * up o in
    let x = m * up e in
    let y = n * up q in
    let i = ordered u (a * down e) s (x * down o) lp in
    let j = ordered s (x * down q) t (y * down e) ph in
    let k = ordered u (a * down q) t (y * down o) lh in
    let v = sum_gap s (x * down o) u (a * down e) (down e * down o) i in
    let w = sum_gap t (y * down o) u (a * down q) (down q * down o) k in
    rw (v.1, w.1)
    (round_at_most v.0 w.0 (gap s (x * down o) u (a * down e)) (down e * down o) (gap t (y * down o) u (a * down q)) (down q * down o)
    (mul-pos (down_pos e) (down_pos o)) (mul-pos (down_pos q) (down_pos o))
    (gap_fractions u a (down o) s x (down e) t y (down q) i j)
    (rw v.1 at f) (rw w.1 at g))

-- ---- a point's coordinate falls on a cell

-- an extent has no sign, or is -0
pub extent_kinds : (x : Float) → Extent x → T (plain x) ⊎ ((k : ℤ) × (x ≡ fin true 0 k))
extent_kinds x w = go w.sign w.digits w.is w.plus
  where
    go : (s : Bool) (m : ℕ) → x ≡ fin s m w.power → (s ≡ false) ⊎ (m ≡ 0) → T (plain x) ⊎ ((k : ℤ) × (x ≡ fin true 0 k))
    go false m e p = inl (subst (λ (y : Float). T (plain y)) (sym e) tt)
    go true m e (inl p) = absurd (true≢false p)
    go true m e (inr p) = inr (w.power, e ∙ ap (λ (n : ℕ). fin true n w.power) p)

-- -0 times a number without a sign is -0
mul_none : (k : ℤ) (y : Float) → T (plain y) → mul binary32 (fin true 0 k) y ≡ fin true 0 (pos 0)
unfolding mul
mul_none k nan p = absurd p
mul_none k (inf s) p = absurd p
mul_none k (fin true n g) p = absurd p
mul_none k (fin false n g) p =
    ap (λ (a : ℕ). round binary32 true a (down k * down g)) (ap (λ (a : ℕ). a * (n * up g)) (zero-mul (up k)) ∙ zero-mul (n * up g))
    ∙ round_none true (down k * down g) (mul-pos (down_pos k) (down_pos g))

-- which falls on the first cell
none_on : (n : ℕ) → on_axis (suc n) (whole_units (nearest_of units (fin true 0 (pos 0)))) ≡ true
unfolding on_axis whole_units nearest_of
none_on n = lt-ltb 0 (suc n) (omega arith)

-- a scale from 2 ^ -20 to 2 ^ 22, by which d is at most n + 1/8
pub record Scale (s d : Float) (n : ℕ) : Type 0 where
  pub is_plain : T (plain s)
  pub least : den s ≤ 2 ^ 20 * num s
  pub most : num s ≤ 2 ^ 22 * den s
  pub few : n ≤ 255
  pub covers : num d * den s * 8 ≤ (8 * n + 1) * (num s * den d)

-- a point p between the ends of its span
pub point_on : (lo p hi s : Float) (n : ℕ) → bounded 20 lo ≡ true → bounded 20 p ≡ true → bounded 20 hi ≡ true → le lo p ≡ true → le p hi ≡ true → le lo hi ≡ true
    → Scale s (sub binary32 hi lo) n → on_axis (suc n) (units_at p lo (inverse s)) ≡ true
unfolding units_at
point_on lo p hi s n L P H lp ph lh w = ⊎_elim some none (extent_kinds e E)
  where
    e : Float
    e = sub binary32 p lo

    d : Float
    d = sub binary32 hi lo

    E : Extent e
    E = difference lo p L P lp

    y : Float
    y = inverse s

    some : T (plain e) → on_axis (suc n) (whole_units (nearest_of units (mul binary32 e y))) ≡ true
    some q =
        on_cells n (mul binary32 e y) w.few
        (coordinate n e s (num d) (den d) w.few q w.is_plain w.least w.most (den_pos d)
        (differences lo p hi L P H lp ph lh (extent_finite E) (extent_finite (difference lo hi L H lh)))
        w.covers)

    none : (k : ℤ) × (e ≡ fin true 0 k) → on_axis (suc n) (whole_units (nearest_of units (mul binary32 e y))) ≡ true
    none (k, q) =
        let D = den_pos s in
        rw q (rw (mul_none k y (over_near s w.is_plain w.least (omega (arith, w.least))).is_plain) (none_on n))
