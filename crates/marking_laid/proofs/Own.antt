-- Refusal 10 never follows from a call's own sizing: the grid that sizing lays over points has a cell for every point, by cell size (`size_on_grid`) and by resolution (`resolution_on_grid`). Assumes nothing.
use Rattle.std.specs.Prelude.{Ok, Err}
use mathlib.Core.Path.{◌≡◌, refl, sym, ap, ◌∙◌, subst}
use mathlib.Core.Logic.{⊎_elim}
use mathlib.Core.Bool.{Bool, true, false, not, cond, ◌&&◌}
use mathlib.Core.List.{List}
use Prim.Native.Nat.{ℕ, zero, suc, ◌+◌, ◌-◌, ◌*◌, ◌/◌, ◌^◌, ◌≤◌, ◌<◌}
use native.Mathlib.Nat.{le_trans, le_of_eq, mul-le-mul, mul-pos, mul-one, mul-le-mul_right, le_of_mul-le-mul_right, lt-div-mul-add}
use native.Mathlib.Numerals.{add-one}
use native.Mathlib.Omega.{arith}
use lib.Dec.{T, ltb, leb, eqb, lit≤, lit<}
use lib.IntN.{ℤ, pos, neg_ℤ}
use lib.Ieee.{Float, nan, inf, fin, binary32, up, down, size, sub, mul, div, lt, le, of_int}
use lib.Ieee.Fits.{down_pos}
use lib.Ieee.Exact.{HasValue, round_exact}
use lib.Pow.{pow_pos}
use lib.Ieee.Back.{round_whole}
use lib.Ieee.Scale.{finite, round_same}
use lib.Ieee.Positive.{num, den, den_pos, first_pos, positive, between, above, above_of_le, le→cross, value→cross}
use Prim.Native.Nat.{zero-le}
use borrow.Author.Tests.{lt-ltb, leb-true, not-false}
use Rattle.grid.specs.Answers.{◌and_then◌}
use Rattle.grid.proofs.Checks.{passed, both_fine, answered}
use Rattle.numbers.specs.Rounding.{Whole}
use Rattle.numbers.specs.declared.NoWhole.TheVariants.{TooLarge}
use Rattle.numbers.specs.Rounding.{limit, floor_z, pick_whole, ceil_of, trunc_of}
use Rattle.numbers.proofs.Order.{not_lt_le}
use Rattle.sizing.specs.Points.{points_fault}
use Rattle.sizing.specs.declared.Span.{Span}
use Rattle.sizing.specs.Sizing.{Laid, points, coord, extent, spans_of, least_size, greatest_size, size_fault, larger, natural, axis_by_size, size_axes, grid_of, size_grid, by_size, placed_at, resolution_fault, least_extent, extent_fault, as_float, main_of, dmain_of, resolution_axes, resolution_scale, resolution_grid, by_resolution}
use Rattle.sizing.proofs.Laws.{whole_points, some_point, all_bounded, resolution_fine}
use Rattle.sizing.proofs.Extremes.{Spanned, x_spanned, y_spanned, z_spanned}
use Rattle.sizing.proofs.Ranges.{is_laid, of_main, extent_finite, extents, main_largest, size_counts}
use Rattle.sizing.proofs.Ratio.{Extent, Exact, Capped, round_capped, whole_part}
use Rattle.grid.specs.declared.Axes.{Axes}
use Rattle.grid.specs.declared.Placement.{Placement}
use Rattle.grid.proofs.Checks.{first_fine}
use Rattle.grid.proofs.First.{both_true}
use lib.ListN.{get_or}
use Rattle.marking_mesh.specs.Faults.{missing_fault, off_fault}
use Rattle.marking_mesh.proofs.Laws.{named}
use Rattle.marking_mesh.specs.Mesh.{units_at, vertex_of, on_axis, on_grid}
use Rattle.marking_laid.proofs.Near.{plain, Near, value_plain, near, mul_is, div_is, div_near}
use Rattle.marking_laid.proofs.Cover.{inverse, le_at_most, extent_kinds, Scale, point_on}
use Rattle.grid.specs.declared.Reason.TheVariants.{BadSize, NoExtent, OffGrid}

-- ---- of extents and rounded quotients

-- an extent is at most 2 ^ 21
extent_most : (x : Float) → Extent x → num x ≤ 2 ^ 21 * den x
extent_most x w = subst (λ (y : Float). num y ≤ 2 ^ 21 * den y) (sym w.is) w.most

-- -0 is covered by any scale
none_covered : (s d : Float) (n : ℕ) → (k : ℤ) × (d ≡ fin true 0 k) → num d * den s * 8 ≤ (8 * n + 1) * (num s * den d)
none_covered s d n (k, e) = rw e (le_trans (le_of_eq (none (up k) (den s))) zero-le)
  where
    none : (a b : ℕ) → 0 * a * b * 8 ≡ 0
    none a b = omega arith

-- a number above 0 is plain
pub positive_plain : (x : Float) → T (positive x) → T (plain x)
positive_plain nan p = absurd p
positive_plain (inf s) p = absurd p
positive_plain (fin true m e) p = absurd p
positive_plain (fin false m e) p = tt

pub plain_positive : (x : Float) → T (plain x) → 0 < num x → T (positive x)
plain_positive nan p h = absurd p
plain_positive (inf s) p h = absurd p
plain_positive (fin true m e) p h = absurd p
plain_positive (fin false m e) p h = subst T (sym (lt-ltb 0 m (first_pos m (up e) h))) tt

-- a / c rounded to k / p, which is at most n: a / c is little over n
ratio_under : (n a c k p : ℕ) → n ≤ 255 → 0 < p → k ≤ n * p → a * 2 ^ 40 * p ≤ k * c * 2 ^ 40 + (a * 2 ^ 20 + c) * p → a * 2 ^ 10 ≤ (n * 2 ^ 10 + 1) * c
ratio_under n a c k p N P h l =
    let x = mul-le-mul_right c h in
    let y = mul-le-mul_right (c * p) N in
    le_of_mul-le-mul_right {k = p} (omega arith) P

-- y / u, at most 2 ^ 30, over m / o, at least 2 ^ -10
quotient_high : (y u m o : ℕ) → y ≤ 2 ^ 30 * u → o ≤ m * 2 ^ 10 → y * o ≤ 2 ^ 60 * (m * u)
quotient_high y u m o h k = let a = mul-le-mul h k in omega arith

-- counts that are one whole number
same_count : (a b : ℕ) → ◌≡◌ {A = Whole} (Ok (pos a)) (Ok (pos b)) → a ≡ b
same_count a b h = cc

-- ---- by cell size

-- a number that has no sign is at most its ceiling
ceil_above : (x : Float) (n : ℕ) → T (plain x) → ceil_of x ≡ Ok (pos n) → num x ≤ n * den x
unfolding ceil_of
ceil_above nan n p h = absurd p
ceil_above (inf s) n p h = absurd p
ceil_above (fin true m e) n p h = absurd p
ceil_above (fin false m e) n p h = go (ltb (m * up e) (limit * down e)) (m * up e) (down e) (down_pos e) h
  where
    go : (t : Bool) (a d : ℕ) → 0 < d → pick_whole t (Ok (neg_ℤ (floor_z (neg_ℤ (pos a)) d))) (Err TooLarge) ≡ Ok (pos n) → a ≤ n * d
    go true zero d D h = zero-le
    go true (suc a) d D h =
        let k : suc (a / d) ≡ n = same_count (suc (a / d)) n h in
        let l : a < a / d * d + d = lt-div-mul-add D in
        subst (λ (i : ℕ). suc a ≤ i * d) k (omega arith)
    go false a d D h = absurd (let z : ◌≡◌ {A = ℕ} 0 1 = cc in omega arith)

-- the cell size is a scale that covers each extent
size_scale : (d size : Float) (m n : ℕ) → Extent d → le least_size size ≡ true → le size greatest_size ≡ true → ceil_of (div binary32 d size) ≡ Ok (pos m) → m ≤ n → n ≤ 255 → Scale size d n
size_scale d size m n D lo hi c M N = record { is_plain = P; least = omega (arith, lower); most = omega (arith, upper); few = N; covers = ⊎_elim some (none_covered size d n) (extent_kinds d D) }
  where
    Z : T (positive size)
    Z = between least_size size greatest_size tt tt (subst T (sym lo) tt) (subst T (sym hi) tt)

    P : T (plain size)
    P = positive_plain size Z

    lower : 1 * den size ≤ num size * 2 ^ 10
    lower = le→cross least_size size tt Z (subst T (sym lo) tt)

    upper : num size * 1 ≤ 2 ^ 20 * den size
    upper = le→cross size greatest_size Z tt (subst T (sym hi) tt)

    some : T (plain d) → num d * den size * 8 ≤ (8 * n + 1) * (num size * den d)
    some q =
        let k = div binary32 d size in
        let S : 0 < den size = den_pos size in
        let w = div_near d size q P (omega (arith, lower)) (quotient_high (num d) (den d) (num size) (den size) (omega (arith, extent_most d D)) (omega (arith, lower))) in
        let r = le_trans (ceil_above k m w.is_plain c) (mul-le-mul_right (den k) M) in
        let u = ratio_under n (num d * den size) (num size * den d) (num k) (den k) N (den_pos k) r w.under in
        omega arith

-- every point of a span falls on one of suc n cells
module _ (ps : List Float) (f : points_fault ps ≡ Ok tt) (v : ℕ) (is_point : v < points ps) where
  spanned_on : (a : ℕ) → a < 3 → (lo hi s : Float) (n : ℕ) → Spanned ps a lo hi → Scale s (sub binary32 hi lo) n
      → on_axis (suc n) (units_at (coord ps a v) lo (inverse s)) ≡ true
  spanned_on a A lo hi s n w z =
      point_on lo (coord ps a v) hi s n w.low_bounded
      (all_bounded ps f (3 * v + a) (omega (arith, whole_points ps f, some_point ps f)))
      w.high_bounded (w.smallest.least v is_point) (w.greatest.most v is_point) w.in_order z

  -- so on one of the axis's cells, which cell size gives
  size_axis_on : (a : ℕ) → a < 3 → (s : Span) (size : Float) (m : ℕ) → Spanned ps a s.lo s.hi → Extent (extent s) → le least_size size ≡ true → le size greatest_size ≡ true
      → ceil_of (div binary32 (extent s) size) ≡ Ok (pos m) → axis_by_size s size ≤ 256
      → on_axis (axis_by_size s size) (units_at (coord ps a v) s.lo (inverse size)) ≡ true
  unfolding natural
  size_axis_on a A s size m w D lo hi c h =
      let k : natural (ceil_of (div binary32 (extent s) size)) ≡ m = ap natural c in
      let n = larger (natural (ceil_of (div binary32 (extent s) size))) 2 in
      let M = larger_least (natural (ceil_of (div binary32 (extent s) size))) in
      subst (λ (i : ℕ). on_axis i (units_at (coord ps a v) s.lo (inverse size)) ≡ true) (sym (add-one n))
      (spanned_on a A s.lo s.hi size n w (size_scale (extent s) size m n D lo hi c (omega arith) (omega arith)))
    where
      larger_least : (n : ℕ) → n ≤ larger n 2
      larger_least n = go (leb n 2) refl
        where
          go : (t : Bool) → leb n 2 ≡ t → n ≤ cond t 2 n
          go true e = leb-true n 2 e
          go false e = le_of_eq refl

-- the grid that sizing by cell size lays over points has a cell for every point
pub size_on_grid : (ps : List Float) (size : Float) (l : Laid) → by_size ps size ≡ Ok l → (v : ℕ) → v < points ps → on_grid l.axes (vertex_of ps l.placement v) ≡ true
size_on_grid ps size l h v is_point =
    let s = spans_of ps in
    let w = answered (points_fault ps and_then size_fault size) (size_grid s size) l h in
    let f = both_fine (points_fault ps) (size_fault size) w.0 in
    let e = is_laid ps f.0 size (size_axes s size) l w.1 in
    let b = not-false (le least_size size && le size greatest_size) (passed (not (le least_size size && le size greatest_size)) BadSize 0 (Ok tt) f.1).0 in
    let lo = (both_true (le least_size size) (le size greatest_size) b).0 in
    let hi = (both_true (le least_size size) (le size greatest_size) b).1 in
    let c = size_counts ps size f.0 f.1 in
    let d = extents ps f.0 in
    subst (λ (x : Laid). on_grid x.axes (vertex_of ps x.placement v) ≡ true) e.1
    (λ t. size_axis_on ps f.0 v is_point 0 (lit< tt) s.x size c.0.0 (x_spanned ps f.0) d.0 lo hi c.0.1 e.0.axis0.most t
    && size_axis_on ps f.0 v is_point 1 (lit< tt) s.y size c.1.0 (y_spanned ps f.0) d.1 lo hi c.1.1 e.0.axis1.most t
    && size_axis_on ps f.0 v is_point 2 (lit< tt) s.z size c.2.0 (z_spanned ps f.0) d.2 lo hi c.2.1 e.0.axis2.most t)

-- ---- by resolution

-- a count of at most 254 as a float
module _ (r : ℕ) (R : r ≤ 254) where
  -- it is exact
  count_value : HasValue (as_float r) false r 1
  unfolding of_int
  count_value = round_whole binary32 false r (le_trans R (lit≤ tt))

  count_plain : T (plain (as_float r))
  count_plain = value_plain (as_float r) r 1 count_value

  count_is : num (as_float r) ≡ r * den (as_float r)
  count_is = sym (mul-one (num (as_float r))) ∙ value→cross (as_float r) r 1 count_value

  -- x over r
  over_count : (x : Float) → T (plain x) → 0 < r → num x ≤ 2 ^ 60 * den x → Near (div binary32 x (as_float r)) (num x) (r * den x)
  over_count x p k h =
      let c = as_float r in
      let C : 0 < den c = den_pos c in
      let some : 0 < num c = subst (λ (n : ℕ). 0 < n) (sym count_is) (mul-pos k C) in
      let e : num x * den c * (r * den x) ≡ num x * (num c * den x) = rw count_is (omega arith) in
      let l = mul-le-mul_right (den x) k in
      subst (λ (y : Float). Near y (num x) (r * den x))
      (sym (div_is x c p count_plain some ∙ round_same binary32 false (num x * den c) (num c * den x) (num x) (r * den x) (mul-pos some (den_pos x)) (mul-pos k (den_pos x)) e))
      (near (num x) (r * den x) (mul-pos k (den_pos x)) (omega arith))

  -- r times x
  times_count : (x : Float) → T (plain x) → num x ≤ 2 ^ 21 * den x → Near (mul binary32 (as_float r) x) (r * num x) (den x)
  times_count x p h =
      let c = as_float r in
      let e : num c * num x * den x ≡ r * num x * (den c * den x) = rw count_is (omega arith) in
      let l = mul-le-mul_right (num x) R in
      subst (λ (y : Float). Near y (r * num x) (den x))
      (sym (mul_is c x count_plain p ∙ round_same binary32 false (num c * num x) (den c * den x) (r * num x) (den x) (mul-pos (den_pos c) (den_pos x)) (den_pos x) e))
      (near (r * num x) (den x) (den_pos x) (omega arith))

-- a number that has no sign is at most one more than its whole part
trunc_below : (x : Float) (n : ℕ) → T (plain x) → trunc_of x ≡ Ok (pos n) → num x ≤ suc n * den x
unfolding trunc_of
trunc_below nan n p h = absurd p
trunc_below (inf s) n p h = absurd p
trunc_below (fin true m e) n p h = absurd p
trunc_below (fin false m e) n p h = go (ltb (m * up e) (limit * down e)) (m * up e) (down e) (down_pos e) h
  where
    go : (t : Bool) (a d : ℕ) → 0 < d → pick_whole t (Ok (pos (a / d))) (Err TooLarge) ≡ Ok (pos n) → a ≤ suc n * d
    go true a d D h =
        let k : a / d ≡ n = same_count (a / d) n h in
        let l : a < a / d * d + d = lt-div-mul-add D in
        subst (λ (i : ℕ). a ≤ suc i * d) k (omega arith)
    go false a d D h = absurd (let z : ◌≡◌ {A = ℕ} 0 1 = cc in omega arith)

-- s / q is m / o over r, rounded
record Quotient (r m o s q : ℕ) : Type 0 where
  r_some : 0 < r
  r_most : r ≤ 253
  m_some : 0 < m
  o_some : 0 < o
  least : o ≤ m * 2 ^ 10
  most : m ≤ 2 ^ 21 * o
  over : s * (r * o) * 2 ^ 40 ≤ (m * (2 ^ 40 + 2 ^ 20) + r * o) * q
  under : m * 2 ^ 40 * q ≤ s * (r * o) * 2 ^ 40 + (m * 2 ^ 20 + r * o) * q

module _ {r m o s q : ℕ} (w : Quotient r m o s q) where
  -- m / o is little over r s / q
  little_over : m * q * 2 ^ 19 ≤ r * s * o * 2 ^ 19 + m * q
  little_over = let a = mul-le-mul_right (o * q) w.r_most in let b = mul-le-mul_right q w.least in omega (arith, w.under)

  -- s / q is 2 ^ -18 at least, and 2 ^ 22 at most
  scale_least : q ≤ 2 ^ 18 * s
  scale_least = let a = mul-le-mul_right (s * o) w.r_most in let b = mul-le-mul_right s w.least in le_of_mul-le-mul_right {k = m} (omega (arith, little_over)) w.m_some

  scale_most : s ≤ 2 ^ 22 * q
  scale_most =
      let a = mul-le-mul_right q w.most in
      let b = mul-le-mul_right (o * q) w.r_some in
      le_of_mul-le-mul_right {k = r * o} (omega (arith, w.over)) (mul-pos w.r_some w.o_some)

  -- an extent d / p that is at most m / o
  main_covers : (d p : ℕ) → d * o ≤ m * p → d * q * 8 ≤ (8 * r + 1) * (s * p)
  main_covers d p h =
      let a = mul-le-mul_right (s * o) w.r_most in
      let b : m * q * 8 ≤ (8 * r + 1) * (s * o) = omega (arith, little_over) in
      let c = mul-le-mul_right p b in
      let e = mul-le-mul_right (q * 8) h in
      le_of_mul-le-mul_right {k = o} (omega arith) w.o_some

  -- an extent d / p of which r + 1 times, over m / o, is little over n
  other_covers : (n d p : ℕ) → n ≤ 255 → suc r * d * o * 2 ^ 8 ≤ (n * 2 ^ 8 + 1) * (m * p) → d * q * 8 ≤ (8 * n + 1) * (s * p)
  other_covers n d p N h =
      let a = mul-le-mul_right d little_over in
      let b = mul-le-mul_right s h in
      let c = mul-le-mul_right (m * p * s) N in
      le_of_mul-le-mul_right {k = m} (omega arith) w.m_some

-- y / u is r d / p rounded, and y / u over m / o is little over n
product_under : (n r d p m o y u : ℕ) → n ≤ 255 → 0 < u → o ≤ m * 2 ^ 10 → y * o * 2 ^ 10 ≤ (n * 2 ^ 10 + 1) * (m * u) → r * d * 2 ^ 40 * u ≤ y * p * 2 ^ 40 + (r * d * 2 ^ 20 + p) * u
    → r * d * o * 2 ^ 8 ≤ (n * 2 ^ 8 + 1) * (m * p)
product_under n r d p m o y u N U least h k =
    let a = mul-le-mul_right o k in
    let b = mul-le-mul_right p h in
    let c = mul-le-mul_right (p * u) least in
    let e = mul-le-mul_right (m * p * u) N in
    le_of_mul-le-mul_right {k = u} (omega arith) U

-- a rough bound: y / u is v / p rounded
rough : (v p y u : ℕ) → y * p * 2 ^ 40 ≤ (v * (2 ^ 40 + 2 ^ 20) + p) * u → y * p ≤ (2 * v + p) * u
rough v p y u h = omega arith

-- y / u is r d / p rounded, and d / p at most 2 ^ 21
product_high : (r d p y u : ℕ) → r ≤ 254 → 0 < p → d ≤ 2 ^ 21 * p → y * p ≤ (2 * (r * d) + p) * u → y ≤ 2 ^ 30 * u
product_high r d p y u R P h k =
    let a = mul-le-mul_right (d * u) R in
    let b = mul-le-mul_right u h in
    le_of_mul-le-mul_right {k = p} (omega arith) P

-- what is above 0 and finite
above_positive : (x : Float) → T (above x) → T (finite x) → T (positive x)
above_positive nan a f = a
above_positive (inf s) a f = absurd f
above_positive (fin true m e) a f = a
above_positive (fin false m e) a f = a

-- an extent of 2 ^ -10 at least
main_positive : (m : Float) → Extent m → lt m least_extent ≡ false → T (positive m) × (1 * den m ≤ num m * 2 ^ 10)
main_positive m M k =
    let f = extent_finite M in
    let l : T (le least_extent m) = subst T (sym (not_lt_le least_extent m tt f k)) tt in
    let p = above_positive m (above_of_le least_extent m tt l) f in
    (p, le→cross least_extent m tt p l)

-- 2 ^ 21 is a value of the format
exact_21 : Exact (2 ^ 21) 1
exact_21 = round_exact binary32 false (2 ^ 21) 1 1 170 (pow_pos 0) (lit< tt) (lit< tt) refl

at_cap : (x : Float) (b : ℕ) → Capped x b 1 → num x ≤ b * den x
at_cap x b w = subst (λ (y : Float). num y ≤ b * den y) (sym w.is) (omega (arith, w.most))

-- the scale s, the main axis's extent m over q, and an extent d of at most m
module _ (q r : ℕ) (one_more : r ≡ suc q) (some : 1 ≤ q) (Q : q ≤ 253) (d m : Float) (D : Extent d) (M : Extent m) (h : le d m ≡ true) (k : lt m least_extent ≡ false) where
  R : r ≤ 254
  R = omega (arith, one_more, Q)

  abbrev s : Float
  s = div binary32 m (as_float q)

  m_plain : T (plain m)
  m_plain = positive_plain m (main_positive m M k).0

  m_least : den m ≤ num m * 2 ^ 10
  m_least = omega (arith, (main_positive m M k).1)

  m_some : 0 < num m
  m_some = omega (arith, m_least, den_pos m)

  s_near : Near s (num m) (q * den m)
  s_near = over_count q (omega (arith, Q)) m m_plain some (omega (arith, extent_most m M))

  s_quotient : Quotient q (num m) (den m) (num s) (den s)
  s_quotient = record { r_some = some; r_most = Q; m_some = m_some; o_some = den_pos m; least = m_least; most = extent_most m M; over = s_near.over; under = s_near.under }

  -- s itself: 2 ^ -18 at least, and, being rounded from at most 2 ^ 21, 2 ^ 21 at most
  pub main_plain : T (plain s)
  main_plain = s_near.is_plain

  pub main_least : den s ≤ 2 ^ 18 * num s
  main_least = scale_least s_quotient

  pub main_most : num s ≤ 2 ^ 21 * den s
  main_most =
      let c = as_float q in
      let C : 0 < num c = subst (λ (n : ℕ). 0 < n) (sym (count_is q (omega (arith, Q)))) (mul-pos some (den_pos c)) in
      let l = mul-le-mul_right (den c) some in
      let a = mul-le-mul (extent_most m M) l in
      let h : num m * den c * 1 ≤ 2 ^ 21 * (num c * den m) = rw (count_is q (omega (arith, Q))) (omega arith) in
      at_cap s (2 ^ 21) (subst (λ (x : Float). Capped x (2 ^ 21) 1) (sym (div_is m c m_plain (count_plain q (omega (arith, Q))) C)) (round_capped (num m * den c) (num c * den m) (2 ^ 21) 1 (mul-pos C (den_pos m)) (lit< tt) h exact_21))

  -- d needs cells only where it has no sign
  covered : (n : ℕ) → n ≤ 255 → (T (plain d) → num d * den s * 8 ≤ (8 * n + 1) * (num s * den d)) → Scale s d n
  covered n N c =
      record { is_plain = s_near.is_plain; least = omega (arith, scale_least s_quotient); most = scale_most s_quotient; few = N; covers = ⊎_elim c (none_covered s d n) (extent_kinds d D) }

  -- q + 1 cells cover the main axis's extent, so any
  main_scale : Scale s d q
  main_scale = covered q (omega (arith, Q)) (λ p. main_covers s_quotient (num d) (den d) (le_at_most d m p m_plain (subst T (sym h) tt)))

  -- and d itself is covered by 2 cells more than the whole part of r d over m
  other_scale : (n : ℕ) → trunc_of (div binary32 (mul binary32 (as_float r) d) m) ≡ Ok (pos n) → n ≤ r → Scale s d (suc n)
  other_scale n c N = covered (suc n) few by
    where
      few : suc n ≤ 255
      few = omega (arith, N, R)

      by : T (plain d) → num d * den s * 8 ≤ (8 * suc n + 1) * (num s * den d)
      by p =
          let y = mul binary32 (as_float r) d in
          let z = div binary32 y m in
          let a = times_count r R d p (extent_most d D) in
          let b = div_near y m a.is_plain m_plain m_some (quotient_high (num y) (den y) (num m) (den m) (product_high r (num d) (den d) (num y) (den y) R (den_pos d) (extent_most d D) (rough (r * num d) (den d) (num y) (den y) a.over)) m_least) in
          let e = ratio_under (suc n) (num y * den m) (num m * den y) (num z) (den z) few (den_pos z) (trunc_below z n b.is_plain c) b.under in
          let f = product_under (suc n) r (num d) (den d) (num m) (den m) (num y) (den y) few (den_pos y) m_least e a.under in
          other_covers s_quotient (suc n) (num d) (den d) few
          (subst (λ (i : ℕ). i * num d * den m * 2 ^ 8 ≤ (suc n * 2 ^ 8 + 1) * (num m * den d)) one_more f)

-- two more than a whole part
two_more : (n : ℕ) (x : Whole) → x ≡ Ok (pos n) → 2 + natural x ≡ suc (suc n)
unfolding natural
two_more n x e = rw e (omega arith)

-- an axis by resolution, the main one or another
module _ (ps : List Float) (f : points_fault ps ≡ Ok tt) (v : ℕ) (is_point : v < points ps) where
  resolution_axis_on : (a : ℕ) → a < 3 → (i : Span) (r : ℕ) (m : Float) (t : Bool) → Spanned ps a i.lo i.hi → 2 ≤ r → r ≤ 254 → Extent (extent i) → Extent m
      → le (extent i) m ≡ true → lt m least_extent ≡ false
      → on_axis (cond t r (2 + natural (trunc_of (div binary32 (mul binary32 (as_float r) (extent i)) m)))) (units_at (coord ps a v) i.lo (inverse (div binary32 m (as_float (r - 1))))) ≡ true
  resolution_axis_on a A i r m t w L H D M h k = go t
    where
      s : Float
      s = div binary32 m (as_float (r - 1))

      one_more : r ≡ suc (r - 1)
      one_more = omega (arith, L)

      on : (n c : ℕ) → c ≡ suc n → Scale s (extent i) n → on_axis c (units_at (coord ps a v) i.lo (inverse s)) ≡ true
      on n c e z = rw e (spanned_on ps f v is_point a A i.lo i.hi s n w z)

      go : (t : Bool) → on_axis (cond t r (2 + natural (trunc_of (div binary32 (mul binary32 (as_float r) (extent i)) m)))) (units_at (coord ps a v) i.lo (inverse s)) ≡ true
      go true = on (r - 1) r one_more (main_scale (r - 1) r one_more (omega (arith, L)) (omega (arith, H)) (extent i) m D M h k)
      go false =
          let c = whole_part r H (extent i) m D M h k in
          on (suc c.0) (2 + natural (trunc_of (div binary32 (mul binary32 (as_float r) (extent i)) m))) (two_more c.0 (trunc_of (div binary32 (mul binary32 (as_float r) (extent i)) m)) c.1)
          (other_scale (r - 1) r one_more (omega (arith, L)) (omega (arith, H)) (extent i) m D M h k c.0 c.1 c.2)

-- the grid that sizing by resolution lays over points has a cell for every point
pub resolution_on_grid : (ps : List Float) (r : ℕ) (l : Laid) → by_resolution ps r ≡ Ok l → (v : ℕ) → v < points ps → on_grid l.axes (vertex_of ps l.placement v) ≡ true
resolution_on_grid ps r l h v is_point =
    let s = spans_of ps in
    let w = answered (points_fault ps and_then resolution_fault r) (resolution_grid s r) l h in
    let f = both_fine (points_fault ps) (resolution_fault r) w.0 in
    let g = answered (extent_fault (dmain_of s)) (grid_of (resolution_axes s r) (placed_at s (resolution_scale s r))) l w.1 in
    let e = is_laid ps f.0 (resolution_scale s r) (resolution_axes s r) l g.1 in
    let b = resolution_fine r f.1 in
    let k = (passed (lt (dmain_of s) least_extent) NoExtent 0 (Ok tt) g.0).0 in
    let d = extents ps f.0 in
    let m = of_main Extent (main_of s) (extent s.x) (extent s.y) (extent s.z) d.0 d.1 d.2 in
    let t = main_largest ps f.0 in
    subst (λ (x : Laid). on_grid x.axes (vertex_of ps x.placement v) ≡ true) e.1
    (λ i. resolution_axis_on ps f.0 v is_point 0 (lit< tt) s.x r (dmain_of s) (eqb (main_of s) 0) (x_spanned ps f.0) b.0 b.1 d.0 m t.0 k i
    && resolution_axis_on ps f.0 v is_point 1 (lit< tt) s.y r (dmain_of s) (eqb (main_of s) 1) (y_spanned ps f.0) b.0 b.1 d.1 m t.1 k i
    && resolution_axis_on ps f.0 v is_point 2 (lit< tt) s.z r (dmain_of s) (eqb (main_of s) 2) (z_spanned ps f.0) b.0 b.1 d.2 m t.2 k i)

-- ---- so no triangle over the points is refused with 10

all_on : (ps : List Float) (ts : List ℕ) (r : Axes) (placement : Placement) → ((v : ℕ) → v < points ps → on_grid r (vertex_of ps placement v) ≡ true) → missing_fault (points ps) ts ≡ Ok tt → off_fault ps ts r placement ≡ Ok tt
all_on ps ts r placement on h = (first_fine OffGrid (λ k. k / 3) (λ v. on_grid r (vertex_of ps placement v)) 0 ts).1 (λ k l. on (get_or ts k 0) ((named ps ts h).names k l))

pub size_never_10 : (ps : List Float) (size : Float) (l : Laid) → by_size ps size ≡ Ok l → (ts : List ℕ) → missing_fault (points ps) ts ≡ Ok tt → off_fault ps ts l.axes l.placement ≡ Ok tt
size_never_10 ps size l h ts = all_on ps ts l.axes l.placement (size_on_grid ps size l h)

pub resolution_never_10 : (ps : List Float) (r : ℕ) (l : Laid) → by_resolution ps r ≡ Ok l → (ts : List ℕ) → missing_fault (points ps) ts ≡ Ok tt → off_fault ps ts l.axes l.placement ≡ Ok tt
resolution_never_10 ps r l h ts = all_on ps ts l.axes l.placement (resolution_on_grid ps r l h)
