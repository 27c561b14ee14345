-- The order of finite f32: total, and transitive. Assumes nothing.
use mathlib.Core.Path.{◌≡◌, refl, sym, ap, ◌∙◌}
use mathlib.Core.Bool.{Bool, true, false, not, ◌&&◌, ◌||◌, true≢false, false≢true}
use Prim.Native.Nat.{ℕ, ◌+◌, ◌*◌, ◌≤◌, ◌<◌}
use native.Mathlib.Nat.{mul_right_comm, mul-lt-mul_of_pos_right, lt_of_mul-lt-mul_right, zero-mul, add-mul}
use native.Mathlib.Omega.{arith}
use lib.Dec.{T, ltb, leb, eqb, eqb→eq}
use lib.Ieee.{Float, nan, inf, fin, up, down, below, level, lt, le, eq}
use lib.Ieee.Fits.{down_pos, eq→eqb}
use lib.Ieee.Scale.{finite}
use borrow.Author.Tests.{lt-ltb, le-ltb, le-leb, lt-leb, eq-eqb, ltb-true, ltb-false, eqb-true, eqb-false}
use Rattle.ints.specs.Order.{same_test}

-- ---- of ±a and ±b

pub eqb_sym : (a b : ℕ) → eqb a b ≡ eqb b a
eqb_sym a b = same_test (eqb a b) (eqb b a) (λ t. eq→eqb (sym (eqb→eq a b t))) (λ t. eq→eqb (sym (eqb→eq b a t)))

-- below or equal is at most
pub le_test : (a b : ℕ) → (ltb a b || (eqb a b && true)) ≡ leb a b
le_test a b = go (ltb a b) (eqb a b) refl refl
  where
    go : (p q : Bool) → ltb a b ≡ p → eqb a b ≡ q → (p || (q && true)) ≡ leb a b
    go true q h k = let l = ltb-true a b h in sym (le-leb a b (omega arith))
    go false true h k = let l = eqb-true a b k in sym (le-leb a b (omega arith))
    go false false h k = let l = ltb-false a b h in let n = eqb-false a b k in sym (lt-leb a b (omega arith))

-- at most is not above
leb_not : (a b : ℕ) → leb a b ≡ not (ltb b a)
leb_not a b = go (ltb b a) refl
  where
    go : (p : Bool) → ltb b a ≡ p → leb a b ≡ not p
    go true h = lt-leb a b (ltb-true b a h)
    go false h = le-leb a b (ltb-false b a h)

level_or_below : (s : Bool) (a : ℕ) (t : Bool) (b : ℕ) → (below s a t b || level s a t b) ≡ not (below t b s a)
level_or_below false a false b = le_test a b ∙ leb_not a b
level_or_below true a true b = ap (λ (e : Bool). ltb b a || (e && true)) (eqb_sym a b) ∙ le_test b a ∙ leb_not b a
level_or_below false a true b = go (ltb 0 (b + a)) refl
  where
    go : (p : Bool) → ltb 0 (b + a) ≡ p → (eqb a b && (false || eqb a 0)) ≡ not p
    go true h = let l : 0 < b + a = ltb-true 0 (b + a) h in some (eqb a b) (eqb a 0) refl refl l
      where
        some : (p q : Bool) → eqb a b ≡ p → eqb a 0 ≡ q → 0 < b + a → (p && (false || q)) ≡ false
        some true true e f l = let x = eqb-true a b e in let y = eqb-true a 0 f in absurd (omega arith)
        some true false e f l = refl
        some false q e f l = refl
    go false h = let l : b + a ≤ 0 = ltb-false 0 (b + a) h in let x : a ≡ b = omega arith in let y : a ≡ 0 = omega arith in λ t. eq-eqb a b x t && (false || eq-eqb a 0 y t)
level_or_below true a false b = go (ltb 0 (a + b)) refl
  where
    go : (p : Bool) → ltb 0 (a + b) ≡ p → (p || (eqb a b && (false || eqb a 0))) ≡ true
    go true h = refl
    go false h = let l : a + b ≤ 0 = ltb-false 0 (a + b) h in let x : a ≡ b = omega arith in let y : a ≡ 0 = omega arith in λ t. eq-eqb a b x t && (false || eq-eqb a 0 y t)

below_asym : (s : Bool) (a : ℕ) (t : Bool) (b : ℕ) → below s a t b ≡ true → below t b s a ≡ false
below_asym false a false b h = let x = ltb-true a b h in le-ltb b a (omega arith)
below_asym false a true b h = absurd (false≢true h)
below_asym true a false b h = refl
below_asym true a true b h = let x = ltb-true b a h in le-ltb a b (omega arith)

-- a below b, and c not below b
below_through : (s : Bool) (a : ℕ) (t : Bool) (b : ℕ) (u : Bool) (c : ℕ) → below s a t b ≡ true → below u c t b ≡ false → below s a u c ≡ true
below_through false a false b false c h k = let x = ltb-true a b h in let y = ltb-false c b k in lt-ltb a c (omega arith)
below_through false a false b true c h k = let x = ltb-true a b h in let y = ltb-false 0 (c + b) k in absurd (omega arith)
below_through false a true b u c h k = absurd (false≢true h)
below_through true a false b false c h k = let x = ltb-true 0 (a + b) h in let y = ltb-false c b k in lt-ltb 0 (a + c) (omega arith)
below_through true a false b true c h k = let x = ltb-true 0 (a + b) h in let y = ltb-false 0 (c + b) k in lt-ltb c a (omega arith)
below_through true a true b false c h k = let x = ltb-true b a h in lt-ltb 0 (a + c) (omega arith)
below_through true a true b true c h k = let x = ltb-true b a h in let y = ltb-false b c k in lt-ltb c a (omega arith)

-- ---- of fractions: a common factor changes nothing

ltb_scaled : (a b k : ℕ) → 0 < k → ltb (a * k) (b * k) ≡ ltb a b
ltb_scaled a b k K = go (ltb a b) refl
  where
    go : (p : Bool) → ltb a b ≡ p → ltb (a * k) (b * k) ≡ p
    go true h = lt-ltb (a * k) (b * k) (mul-lt-mul_of_pos_right (ltb-true a b h) K)
    go false h = back (ltb (a * k) (b * k)) refl
      where
        back : (q : Bool) → ltb (a * k) (b * k) ≡ q → q ≡ false
        back true e = let x : a < b = lt_of_mul-lt-mul_right k (ltb-true (a * k) (b * k) e) in let y = ltb-false a b h in absurd (omega arith)
        back false e = refl

below_scaled : (s : Bool) (a : ℕ) (t : Bool) (b k : ℕ) → 0 < k → below s (a * k) t (b * k) ≡ below s a t b
below_scaled false a false b k K = ltb_scaled a b k K
below_scaled false a true b k K = refl
below_scaled true a false b k K =
    ap (λ (n : ℕ). ltb 0 n) (sym (add-mul a b k)) ∙ ap (λ (n : ℕ). ltb n ((a + b) * k)) (sym (zero-mul k)) ∙ ltb_scaled 0 (a + b) k K
below_scaled true a true b k K = ltb_scaled b a k K

-- ---- of finite floats

pub le_not_lt : (x y : Float) → T (finite x) → T (finite y) → le x y ≡ not (lt y x)
unfolding le lt eq
le_not_lt nan y p q = absurd p
le_not_lt (inf s) y p q = absurd p
le_not_lt (fin s m e) nan p q = absurd q
le_not_lt (fin s m e) (inf t) p q = absurd q
le_not_lt (fin s m e) (fin t n g) p q = level_or_below s (m * up e * down g) t (n * up g * down e)

-- x < y and not z < y: x < z
pub lt_through : (x y z : Float) → T (finite x) → T (finite y) → T (finite z) → lt x y ≡ true → lt z y ≡ false → lt x z ≡ true
unfolding lt
lt_through nan y z p q r h k = absurd p
lt_through (inf s) y z p q r h k = absurd p
lt_through (fin s m e) nan z p q r h k = absurd q
lt_through (fin s m e) (inf t) z p q r h k = absurd q
lt_through (fin s m e) (fin t n g) nan p q r h k = absurd r
lt_through (fin s m e) (fin t n g) (inf u) p q r h k = absurd r
lt_through (fin s m e) (fin t n g) (fin u l f) p q r h k =
    let a = m * up e in
    let b = n * up g in
    let c = l * up f in
    let xy = below_scaled s (a * down g) t (b * down e) (down f) (down_pos f) ∙ h in
    let zy = below_scaled u (c * down g) t (b * down f) (down e) (down_pos e) ∙ k in
    let b-same : b * down f * down e ≡ b * down e * down f = mul_right_comm b (down f) (down e) in
    let xz = below_through s (a * down g * down f) t (b * down e * down f) u (c * down g * down e) xy (ap (λ (i : ℕ). below u (c * down g * down e) t i) (sym b-same) ∙ zy) in
    sym (below_scaled s (a * down f) u (c * down e) (down g) (down_pos g))
    ∙ (λ i. below s (mul_right_comm a (down f) (down g) i) u (mul_right_comm c (down e) (down g) i))
    ∙ xz

pub lt_asym : (x y : Float) → T (finite x) → T (finite y) → lt x y ≡ true → lt y x ≡ false
unfolding lt
lt_asym nan y p q h = absurd p
lt_asym (inf s) y p q h = absurd p
lt_asym (fin s m e) nan p q h = absurd q
lt_asym (fin s m e) (inf t) p q h = absurd q
lt_asym (fin s m e) (fin t n g) p q h = below_asym s (m * up e * down g) t (n * up g * down e) h

-- what the two tests say of each other
module _ (x y : Float) (p : T (finite x)) (q : T (finite y)) where
  pub lt_le : lt x y ≡ true → le x y ≡ true
  lt_le h = le_not_lt x y p q ∙ ap not (lt_asym x y p q h)

  pub not_lt_le : lt y x ≡ false → le x y ≡ true
  not_lt_le h = le_not_lt x y p q ∙ ap not h

  pub le_not : le x y ≡ true → lt y x ≡ false
  le_not h = turn (lt y x) (sym (le_not_lt x y p q) ∙ h)
    where
      turn : (b : Bool) → not b ≡ true → b ≡ false
      turn true e = absurd (false≢true e)
      turn false e = refl

  pub not_le_lt : le x y ≡ false → lt y x ≡ true
  not_le_lt h = turn (lt y x) (sym (le_not_lt x y p q) ∙ h)
    where
      turn : (b : Bool) → not b ≡ false → b ≡ true
      turn true e = refl
      turn false e = absurd (true≢false e)

pub le_self : (x : Float) → T (finite x) → le x x ≡ true
le_self x p = go (lt x x) refl
  where
    go : (b : Bool) → lt x x ≡ b → le x x ≡ true
    go true h = absurd (true≢false (sym h ∙ lt_asym x x p p h))
    go false h = not_lt_le x x p p h

pub le_through : (x y z : Float) → T (finite x) → T (finite y) → T (finite z) → le x y ≡ true → le y z ≡ true → le x z ≡ true
le_through x y z p q r h k = go (lt z x) refl
  where
    go : (b : Bool) → lt z x ≡ b → le x z ≡ true
    go true e = absurd (true≢false (sym (lt_through z x y r p q e (le_not x y p q h)) ∙ le_not y z q r k))
    go false e = not_lt_le x z p r e
