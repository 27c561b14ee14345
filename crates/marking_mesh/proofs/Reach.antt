-- A vertex's coordinate (p - origin) * (1 / scale), each operation rounded once, is at most 2 ^ 39 after the refusals 3 and 5, so it has its whole number of units: rounding lifts nothing past a power of two. Assumes nothing.
use Rattle.std.specs.Prelude.{Ok, Err}
use mathlib.Core.Path.{◌≡◌, refl, sym, ap, ◌∙◌, subst}
use mathlib.Core.Bool.{Bool, true, false, not, cond, ◌&&◌, ◌||◌, beq, true≢false, false≢true}
use mathlib.Core.List.{List, [], ◌∷◌}
use Prim.Native.Nat.{ℕ, ◌+◌, ◌-◌, ◌*◌, ◌^◌, ◌≤◌, ◌<◌}
use native.Mathlib.Nat.{le_trans, le_of_eq, mul-one, one-mul, mul_comm, mul_assoc, mul-pos, mul-le-mul, mul-le-mul_right, mul-mul-mul_comm}
use native.Mathlib.Omega.{arith}
use lib.ListN.{length, get_or}
use lib.Dec.{T, ltb, eqb, ltb→lt, eqb→eq, lit<}
use lib.IntN.{ℤ, pos}
use lib.Pow.{pow_pos, pow-add, pow-lt}
use lib.Ieee.{Float, nan, inf, fin, binary32, up, down, unlike, round, sum, neg, sub, mul, div, le, eq}
use lib.Ieee.Fits.{up_pos, down_pos, and_l}
use lib.Ieee.Exact.{round_exact}
use lib.Ieee.Positive.{positive, between, le→cross, through}
use borrow.Author.Tests.{lt-ltb, le-leb, leb-true, ne_eqb}
use Rattle.numbers.specs.declared.NoWhole.TheVariants.{TooLarge}
use Rattle.numbers.specs.Rounding.{units, limit, pick_whole, under_limit, nearest_of}
use Rattle.numbers.proofs.Sign.{round_negated}
use Rattle.sizing.specs.Points.{bounded, numbers_fault}
use Rattle.sizing.proofs.Ratio.{Capped, Exact, round_capped}
use Rattle.grid.specs.declared.Placement.{Placement}
use Rattle.grid.proofs.Checks.{passed, both_fine, not_false, first_fine}
use Rattle.grid.proofs.First.{both_true}
use Rattle.ints.specs.Bound.{cons3}
use Rattle.sizing.specs.Sizing.{points, coord}
use Rattle.marking_mesh.specs.Mesh.{whole_units, units_at, vertex_of}
use Rattle.marking_mesh.specs.Faults.{origin_fault, least_scale, greatest_scale, lent_fault, lent_numbers_fault}
use Rattle.marking_mesh.proofs.Laws.{within_points}
use Rattle.grid.specs.declared.Reason.TheVariants.{BadNumber, BadSize}

-- ---- a rounded fraction

-- 2 ^ k is a value of the format
exact_power : (k : ℕ) → k < 128 → Exact (2 ^ k) 1
exact_power k K =
    let l : k + 149 < 277 = omega arith in
    round_exact binary32 false (2 ^ k) 1 1 (k + 149) (pow_pos 0) (lit< tt)
    (subst (λ (n : ℕ). n < 2 ^ 277) (sym (one-mul (2 ^ (k + 149)))) (pow-lt l))
    (sym (mul-one (1 * 2 ^ (k + 149)) ∙ one-mul (2 ^ (k + 149)) ∙ pow-add 2 k 149))

-- a value of at most 2 ^ k with no sign
capped_bounded : (k : ℕ) (x : Float) → Capped x (2 ^ k) 1 → bounded k x ≡ true
unfolding bounded
capped_bounded k x c =
    let m = c.digits * up c.power in
    ap (bounded k) c.is ∙ le-leb m (2 ^ k * down c.power) (le_trans (le_of_eq (sym (mul-one m))) c.most)

-- the sign does not matter
neg_bounded : (k : ℕ) (x : Float) → bounded k (neg x) ≡ bounded k x
unfolding bounded neg
neg_bounded k nan = refl
neg_bounded k (inf s) = refl
neg_bounded k (fin s m e) = refl

-- n / c, at most 2 ^ k, stays so when it is rounded
rounded : (k : ℕ) (s : Bool) (n c : ℕ) → k < 128 → 0 < c → n ≤ 2 ^ k * c → bounded k (round binary32 s n c) ≡ true
rounded k s n c K C h = go s
  where
    plain : bounded k (round binary32 false n c) ≡ true
    plain = capped_bounded k (round binary32 false n c) (round_capped n c (2 ^ k) 1 C (pow_pos 0) (le_trans (le_of_eq (mul-one n)) h) (exact_power k K))

    go : (s : Bool) → bounded k (round binary32 s n c) ≡ true
    go false = plain
    go true = ap (bounded k) (round_negated binary32 n c) ∙ neg_bounded k (round binary32 false n c) ∙ plain

-- ---- the three operations

-- whichever of two bounded numbers a test picks
picked : (k : ℕ) (b : Bool) (x y : Float) → bounded k x ≡ true → bounded k y ≡ true → bounded k (cond b x y) ≡ true
picked k true x y p q = p
picked k false x y p q = q

-- ±a / c + ±b / c
sum_bounded : (s : Bool) (a : ℕ) (t : Bool) (b c : ℕ) → 0 < c → a ≤ 2 ^ 20 * c → b ≤ 2 ^ 20 * c → bounded 21 (sum binary32 s a t b c) ≡ true
unfolding sum
sum_bounded s a t b c C A B =
    picked 21 (beq s t) _ _ (rounded 21 s (a + b) c (lit< tt) C (omega arith))
    (picked 21 (ltb a b) _ _
    (rounded 21 t (b - a) c (lit< tt) C (omega arith))
    (rounded 21 (s && ltb b a) (a - b) c (lit< tt) C (omega arith)))

-- the difference of two numbers of at most 2 ^ 20
difference_bounded : (x y : Float) → bounded 20 x ≡ true → bounded 20 y ≡ true → bounded 21 (sub binary32 x y) ≡ true
unfolding bounded sub
difference_bounded nan y p q = absurd (false≢true p)
difference_bounded (inf s) y p q = absurd (false≢true p)
difference_bounded (fin s m e) nan p q = absurd (false≢true q)
difference_bounded (fin s m e) (inf t) p q = absurd (false≢true q)
difference_bounded (fin s m e) (fin t n g) p q =
    sum_bounded s (m * up e * down g) (not t) (n * up g * down e) (down e * down g) (mul-pos (down_pos e) (down_pos g))
    (widened (m * up e) (down e) (down g) (leb-true (m * up e) (2 ^ 20 * down e) p))
    (le_trans (widened (n * up g) (down g) (down e) (leb-true (n * up g) (2 ^ 20 * down g) q)) (le_of_eq (ap (λ (k : ℕ). 2 ^ 20 * k) (mul_comm (down g) (down e)))))
  where
    widened : (n c d : ℕ) → n ≤ 2 ^ 20 * c → n * d ≤ 2 ^ 20 * (c * d)
    widened n c d k = le_trans (mul-le-mul_right d k) (le_of_eq (mul_assoc (2 ^ 20) c d))

-- the product of a number of at most 2 ^ j and one of at most 2 ^ k
product_bounded : (j k : ℕ) (x y : Float) → j + k < 128 → bounded j x ≡ true → bounded k y ≡ true → bounded (j + k) (mul binary32 x y) ≡ true
unfolding bounded mul
product_bounded j k nan y K p q = absurd (false≢true p)
product_bounded j k (inf s) y K p q = absurd (false≢true p)
product_bounded j k (fin s m e) nan K p q = absurd (false≢true q)
product_bounded j k (fin s m e) (inf t) K p q = absurd (false≢true q)
product_bounded j k (fin s m e) (fin t n g) K p q =
    rounded (j + k) (unlike s t) (m * up e * (n * up g)) (down e * down g) K (mul-pos (down_pos e) (down_pos g))
    (le_trans (mul-le-mul (leb-true (m * up e) (2 ^ j * down e) p) (leb-true (n * up g) (2 ^ k * down g) q))
    (le_of_eq (mul-mul-mul_comm (2 ^ j) (down e) (2 ^ k) (down g) ∙ ap (λ (i : ℕ). i * (down e * down g)) (sym (pow-add 2 j k)))))

-- 1 / y, of a y that is not below 2 ^ -18
one_over_bounded : (y : Float) → T (positive y) → T (le least_scale y) → bounded 18 (div binary32 (fin false 1 (pos 0)) y) ≡ true
unfolding div
one_over_bounded nan p h = absurd p
one_over_bounded (inf s) p h = absurd p
one_over_bounded (fin true n g) p h = absurd p
one_over_bounded (fin false n g) p h = placement (eqb n 0) (ne_eqb n 0 (apart n some))
  where
    some : 0 < n
    some = ltb→lt 0 n p

    apart : (n : ℕ) → 0 < n → n ≡ 0 → ⊥
    apart n l z = omega arith

    turned : (a b : ℕ) → 1 * a ≤ b * 2 ^ 18 → 1 * a ≤ 2 ^ 18 * (b * 1)
    turned a b k = omega arith

    placement : (none : Bool) → none ≡ false → bounded 18 (cond none (inf false) (round binary32 false (1 * down g) (n * up g * 1))) ≡ true
    placement true f = absurd (true≢false f)
    placement false f =
        rounded 18 false (1 * down g) (n * up g * 1) (lit< tt) (mul-pos (mul-pos some (up_pos g)) (pow_pos 0))
        (turned (down g) (n * up g) (le→cross least_scale (fin false n g) tt p h))

-- a number that equals a bounded one
same_bounded : (k : ℕ) (x y : Float) → eq x y ≡ true → bounded k y ≡ true → bounded k x ≡ true
unfolding eq bounded
same_bounded k nan y h q = absurd (false≢true h)
same_bounded k (inf s) nan h q = absurd (false≢true h)
same_bounded k (inf s) (inf t) h q = q
same_bounded k (inf s) (fin t n g) h q = absurd (false≢true h)
same_bounded k (fin s m e) nan h q = absurd (false≢true h)
same_bounded k (fin s m e) (inf t) h q = absurd (false≢true h)
same_bounded k (fin s m e) (fin t n g) h q =
    let a = m * up e * down g in
    let b = n * up g * down e in
    let same : a ≡ b = eqb→eq a b (and_l (eqb a b) (beq s t || eqb a 0) (subst T (sym h) tt)) in
    let most : n * up g * 1 ≤ 2 ^ k * down g = le_trans (le_of_eq (mul-one (n * up g))) (leb-true (n * up g) (2 ^ k * down g) q) in
    let r : m * up e * 1 ≤ 2 ^ k * down e = through (m * up e) (n * up g) (2 ^ k) (down e) (down g) 1 (down_pos g) (le_of_eq same) most in
    le-leb (m * up e) (2 ^ k * down e) (le_trans (le_of_eq (sym (mul-one (m * up e)))) r)

-- ---- the coordinate

module _ (p o scale reciprocal : Float) (P : bounded 20 p ≡ true) (O : bounded 20 o ≡ true) (least : le least_scale scale ≡ true) (greatest : le scale greatest_scale ≡ true)
    (is : eq reciprocal (div binary32 (fin false 1 (pos 0)) scale) ≡ true) where
  -- the lent 1 / scale is at most 2 ^ 18
  reciprocal_bounded : bounded 18 reciprocal ≡ true
  reciprocal_bounded =
      let l = subst T (sym least) tt in
      let g = subst T (sym greatest) tt in
      same_bounded 18 reciprocal (div binary32 (fin false 1 (pos 0)) scale) is (one_over_bounded scale (between least_scale scale greatest_scale tt tt l g) l)

  -- |t| is at most 2 ^ 39
  pub within_reach : bounded 39 (mul binary32 (sub binary32 p o) reciprocal) ≡ true
  within_reach = product_bounded 21 18 (sub binary32 p o) reciprocal (lit< tt) (difference_bounded p o P O) reciprocal_bounded

-- a number of at most 2 ^ 39 is under the limit, so it has a nearest whole number
pub bounded_whole : (k : ℕ) (t : Float) → bounded 39 t ≡ true → (q : ℤ) × (nearest_of k t ≡ Ok q)
unfolding bounded nearest_of
bounded_whole k nan h = absurd (false≢true h)
bounded_whole k (inf s) h = absurd (false≢true h)
bounded_whole k (fin s m e) h = (_, given (m * up e) (down e) _ (down_pos e) (leb-true (m * up e) (2 ^ 39 * down e) h))
  where
    given : (n d : ℕ) (z : ℤ) → 0 < d → n ≤ 2 ^ 39 * d → under_limit n d z ≡ Ok z
    given n d z D h =
        let l : n < limit * d = omega arith in
        ap (λ (b : Bool). pick_whole b (Ok z) (Err TooLarge)) (lt-ltb n (limit * d) l)

-- so a vertex's coordinate has its whole number of units
pub whole : (k : ℕ) (p o scale reciprocal : Float) → bounded 20 p ≡ true → bounded 20 o ≡ true → le least_scale scale ≡ true → le scale greatest_scale ≡ true
    → eq reciprocal (div binary32 (fin false 1 (pos 0)) scale) ≡ true
    → (q : ℤ) × (nearest_of k (mul binary32 (sub binary32 p o) reciprocal) ≡ Ok q)
whole k p o scale reciprocal P O least greatest is = bounded_whole k (mul binary32 (sub binary32 p o) reciprocal) (within_reach p o scale reciprocal P O least greatest is)

-- ---- of a mesh that passed 3 and 5: every number is bounded, so every coordinate of a vertex is a whole number of units, and the place that stands for what is none never shows

pub record Bounded (ps : List Float) (placement : Placement) : Type 0 where
  pub origin_x : bounded 20 placement.x ≡ true
  pub origin_y : bounded 20 placement.y ≡ true
  pub origin_z : bounded 20 placement.z ≡ true
  pub points_in : (k : ℕ) → k < length ps → bounded 20 (get_or ps k nan) ≡ true

pub numbers_bounded : (ps : List Float) (placement : Placement) → lent_numbers_fault ps placement ≡ Ok tt → Bounded ps placement
numbers_bounded ps placement h =
    let w = both_fine (origin_fault placement) (numbers_fault 3 ps) h in
    let o = (first_fine BadNumber (λ n. 0 + n) (bounded 20) nan (placement.x ∷ placement.y ∷ placement.z ∷ [])).0 w.0 in
    record { origin_x = o 0 (lit< tt); origin_y = o 1 (lit< tt); origin_z = o 2 (lit< tt); points_in = (first_fine BadNumber (λ n. 3 + n) (bounded 20) nan ps).0 w.1 }

-- one coordinate
coordinate_whole : (placement : Placement) → lent_fault placement ≡ Ok tt → (p o : Float) → bounded 20 p ≡ true → bounded 20 o ≡ true
    → (q : ℤ) × (nearest_of units (mul binary32 (sub binary32 p o) placement.reciprocal) ≡ Ok q) × (units_at p o placement.reciprocal ≡ q)
unfolding units_at whole_units
coordinate_whole placement h p o P O =
    let s = placement.scale in
    let r = eq placement.reciprocal (div binary32 (fin false 1 (pos 0)) s) in
    let all = not_false (le least_scale s && le s greatest_scale && r) (passed _ BadSize 0 (Ok tt) h).0 in
    let ends = (both_true (le least_scale s && le s greatest_scale) r all).0 in
    let w = whole units p o s placement.reciprocal P O (both_true (le least_scale s) (le s greatest_scale) ends).0 (both_true (le least_scale s) (le s greatest_scale) ends).1 (both_true (le least_scale s && le s greatest_scale) r all).1 in
    (w.0, w.1, ap whole_units w.1)

-- every vertex: its coordinates are the q that 01 names, of the exact t
pub vertex_whole : (ps : List Float) (placement : Placement) → lent_numbers_fault ps placement ≡ Ok tt → lent_fault placement ≡ Ok tt → (v : ℕ) → v < points ps
    → (x y z : ℤ) × (vertex_of ps placement v ≡ x ∷ y ∷ z ∷ [])
    × (nearest_of units (mul binary32 (sub binary32 (coord ps 0 v) placement.x) placement.reciprocal) ≡ Ok x)
    × (nearest_of units (mul binary32 (sub binary32 (coord ps 1 v) placement.y) placement.reciprocal) ≡ Ok y)
    × (nearest_of units (mul binary32 (sub binary32 (coord ps 2 v) placement.z) placement.reciprocal) ≡ Ok z)
vertex_whole ps placement h f v l =
    let b = numbers_bounded ps placement h in
    let n = within_points (length ps) v l in
    let x = coordinate_whole placement f (coord ps 0 v) placement.x (b.points_in (3 * v + 0) (omega arith)) b.origin_x in
    let y = coordinate_whole placement f (coord ps 1 v) placement.y (b.points_in (3 * v + 1) (omega arith)) b.origin_y in
    let z = coordinate_whole placement f (coord ps 2 v) placement.z (b.points_in (3 * v + 2) n) b.origin_z in
    (x.0, y.0, z.0, cons3 x.2 y.2 z.2, x.1, y.1, z.1)
