-- Laws of specs/Cuts.antt: where a rising line passes a number, what a cut leaves, cuts one after another, and a band's cells as a line. Assumes nothing.
use mathlib.Core.Bool.{Bool, true, false, not, ◌&&◌, ◌||◌, and_assoc, and_comm, and-false}
use mathlib.Core.Logic.{⊎_elim}
use mathlib.Core.Path.{◌≡◌, refl, sym, ap, subst, ◌∙◌}
use Prim.Native.Nat.{ℕ, zero, suc, ◌+◌, ◌-◌, ◌*◌, ◌/◌, ◌≤◌, ◌<◌, ◌^◌, zero-le}
use native.Mathlib.Nat.{le_trans, mul_comm, mul-le-mul_left, div-lt_iff_lt-mul}
use native.Mathlib.Omega.{arith}
use lib.Dec.{T, leb, ltb, leb→le, le→leb, ltb→lt, lt→ltb}
use lib.IntN.{ℤ, pos, negsuc, neg_ℤ, nat_abs, ◌+ℤ◌, ◌-ℤ◌, ◌*ℤ◌, +ℤ_assoc, +ℤ_comm, *ℤ_comm, zero-*ℤ, neg_ℤ-neg_ℤ, -ℤ_one}
use lib.Signed.{lt_z, le_z}
use borrow.Author.Tests.{le-leb, lt-leb, lt-ltb, le-ltb, leb-true, leb-false, ltb-true}
use Rattle.grid.proofs.First.{le_or_lt, both_true}
use mir.Syntax.{w64}
use mir.Val.{to_z, of_z}
use Rattle.ints.specs.Bound.{In, Val, arg, lit, minus, in_eq, in_lit, v_in}
use Rattle.ints.specs.Order.{same_test, le_not, le_z_neg, lt_less, lt_more}
use Rattle.ints.specs.Ring.{mul_neg}
use Rattle.touch.specs.declared.Band.{Band}
use Rattle.touch.specs.declared.Three.{Three}
use Rattle.touch.specs.declared.Bands.{Bands}
use Rattle.touch.specs.Bands.{kept, kept_three, kept_all, BandFits, Crosswise, Axial, BandsFit}
use Rattle.touch.proofs.Laws.{signed, axes_are, products_are}
use Rattle.grid.specs.declared.Stretch.{Stretch}
use Rattle.grid.specs.declared.Block.{Block}
use Rattle.marking_mesh.specs.Ranges.{between, holds}
use Rattle.marking_cuts.specs.Cuts.{lies, Cut, Rising, First, Past, Clipped, on_axis_i, on_axis_j, on_axis_k, across_x, across_y, rest_of_row, axes_leave, across_z, rest_along_k}

-- ---- tests

not_both : {b : Bool} → b ≡ true → b ≡ false → ⊥
not_both e f = subst T (sym e ∙ f) tt

-- what fails if its consequence does
fails : (a b : Bool) → (a ≡ true → b ≡ true) → b ≡ false → a ≡ false
fails true b f e = absurd (not_both (f refl) e)
fails false b f e = refl

turned : (x n : ℕ) → not (leb n x) ≡ ltb x n
turned x n = ⊎_elim (λ h. ap not (le-leb n x h) ∙ sym (le-ltb x n h)) (λ h. ap not (lt-leb n x h) ∙ sym (lt-ltb x n h)) (le_or_lt n x)

-- ---- a line that rises

-- the first place above h is one past the quotient
above_is : (h s x : ℕ) → 0 < s → leb (h / s + 1) x ≡ ltb h (s * x)
above_is h s x p =
    same_test (leb (h / s + 1) x) (ltb h (s * x))
    (λ t. let a = leb→le (h / s + 1) x t in let b : h / s < x = omega arith in lt→ltb h (s * x) (subst (λ (n : ℕ). h < n) (mul_comm x s) ((div-lt_iff_lt-mul p).0 b)))
    (λ t. le→leb (h / s + 1) x (let b = (div-lt_iff_lt-mul p).1 (subst (λ (n : ℕ). h < n) (mul_comm s x) (ltb→lt h (s * x) t)) in omega arith))

reached_on : (low : ℤ) (a b : ℕ) → a ≤ b → le_z low (pos a) ≡ true → le_z low (pos b) ≡ true
reached_on (pos l) a b h e = le-leb l b (le_trans (leb-true l a e) h)
reached_on (negsuc l) a b h e = refl

under_before : (high : ℤ) (a b : ℕ) → a ≤ b → le_z (pos b) high ≡ true → le_z (pos a) high ≡ true
under_before (pos l) a b h e = le-leb a l (le_trans h (leb-true b l e))
under_before (negsuc l) a b h e = absurd (not_both e refl)

module _ (step : ℤ) (r : Rising step) where
  pub value : (x : ℕ) → step *ℤ pos x ≡ pos (r.size * x)
  value x = ap (λ (z : ℤ). z *ℤ pos x) r.is

  climbs : (low : ℤ) (x y : ℕ) → x ≤ y → le_z low (step *ℤ pos x) ≡ true → le_z low (step *ℤ pos y) ≡ true
  climbs low x y h e = ap (le_z low) (value y) ∙ reached_on low (r.size * x) (r.size * y) (mul-le-mul_left r.size h) (sym (ap (le_z low) (value x)) ∙ e)

  falls : (high : ℤ) (x y : ℕ) → x ≤ y → le_z (step *ℤ pos y) high ≡ true → le_z (step *ℤ pos x) high ≡ true
  falls high x y h e =
      ap (λ (z : ℤ). le_z z high) (value x) ∙ under_before high (r.size * x) (r.size * y) (mul-le-mul_left r.size h) (sym (ap (λ (z : ℤ). le_z z high) (value y)) ∙ e)

  -- low is reached at `from`, or it is suc l and comes later
  pub first_here : (low : ℤ) (from : ℕ) → le_z low (step *ℤ pos from) ≡ true → First step low from from
  first_here low from e = record { after = omega arith; reached = λ x h. climbs low from x h e ∙ sym (le-leb from x h) }

  pub first_later : (low : ℤ) (from l n : ℕ) → low ≡ pos (suc l) → le_z low (step *ℤ pos from) ≡ false → n ≡ l / r.size + 1 → First step low from n
  first_later low from l n is e at =
      record { after = let h = leb-false n from (sym (passes from) ∙ e) in omega arith; reached = λ x h. passes x }
    where
      passes : (x : ℕ) → le_z low (step *ℤ pos x) ≡ leb n x
      passes x = (λ t. le_z (is t) (value x t)) ∙ sym (above_is l r.size x r.some) ∙ sym (ap (λ (m : ℕ). leb m x) at)

  -- the place before `to` is not above high, or high is h and is passed before
  pub past_here : (high : ℤ) (to : ℕ) → 0 < to → le_z (step *ℤ pos (to - 1)) high ≡ true → Past step high to to
  past_here high to p e = record { before = omega arith; under = λ x h. falls high x (to - 1) (omega arith) e ∙ sym (lt-ltb x to h) }

  pub past_before : (high : ℤ) (to h n : ℕ) → high ≡ pos h → le_z (step *ℤ pos (to - 1)) high ≡ false → n ≡ h / r.size + 1 → Past step high to n
  past_before high to h n is e at =
      record { before = let k = last (leb n (to - 1)) refl in omega arith; under = λ x l. passes x }
    where
      passes : (x : ℕ) → le_z (step *ℤ pos x) high ≡ ltb x n
      passes x =
          (λ t. le_z (value x t) (is t)) ∙ le_not (pos (r.size * x)) (pos h) ∙ ap not (sym (above_is h r.size x r.some) ∙ sym (ap (λ (m : ℕ). leb m x) at)) ∙ turned x n

      last : (b : Bool) → leb n (to - 1) ≡ b → n ≤ to - 1
      last true f = leb-true n (to - 1) f
      last false f = absurd (not_both (sym (turned (to - 1) n) ∙ ap not f) (sym (passes (to - 1)) ∙ e))

  -- the line is below low at the last place, or above high at the first: nothing is left
  pub lies_nowhere : (e : Stretch) (low high : ℤ) → e.from < e.to → (lt_z (step *ℤ pos (e.to - 1)) low || lt_z high (step *ℤ pos e.from)) ≡ true
      → (x : ℕ) → between e x ≡ true → lies step low high x ≡ false
  lies_nowhere e low high some h x w = go (lt_z (step *ℤ pos (e.to - 1)) low) refl h
    where
      from_x : e.from ≤ x
      from_x = leb-true e.from x (both_true (leb e.from x) (ltb x e.to) w).0

      x_to : x < e.to
      x_to = ltb-true x e.to (both_true (leb e.from x) (ltb x e.to) w).1

      go : (b : Bool) → lt_z (step *ℤ pos (e.to - 1)) low ≡ b → (b || lt_z high (step *ℤ pos e.from)) ≡ true → lies step low high x ≡ false
      go true f k =
          ap (λ (b : Bool). b && le_z (step *ℤ pos x) high)
          (fails (le_z low (step *ℤ pos x)) (le_z low (step *ℤ pos (e.to - 1))) (climbs low x (e.to - 1) (omega (arith, x_to))) (le_not low (step *ℤ pos (e.to - 1)) ∙ ap not f))
      go false f k =
          ap (λ (b : Bool). le_z low (step *ℤ pos x) && b)
          (fails (le_z (step *ℤ pos x) high) (le_z (step *ℤ pos e.from) high) (falls high e.from x from_x) (le_not (step *ℤ pos e.from) high ∙ ap not k))
          ∙ and-false (le_z low (step *ℤ pos x))

-- what a test of what a machine has tells of the numbers
pub told : {a b x y : ℤ} {t : Bool} → a ≡ x → b ≡ y → le_z a b ≡ t → le_z x y ≡ t
told p q e = sym (λ i. le_z (p i) (q i)) ∙ e

-- a number that the line has not reached is above 0, and one less is not below it
pub above_0 : (step low : ℤ) → Rising step → (x : ℕ) → le_z low (step *ℤ pos x) ≡ false → (l : ℕ) × (low ≡ pos (suc l))
above_0 step low r x e = go low (sym (ap (le_z low) (value step r x)) ∙ e)
  where
    go : (z : ℤ) → le_z z (pos (r.size * x)) ≡ false → (l : ℕ) × (z ≡ pos (suc l))
    go (pos zero) f = absurd (not_both (le-leb 0 (r.size * x) zero-le) f)
    go (pos (suc l)) f = (l, refl)
    go (negsuc l) f = absurd (not_both refl f)

pub not_below_0 : (z : ℤ) → le_z (pos 0) z ≡ true → z ≡ pos (nat_abs z)
not_below_0 (pos n) e = refl
not_below_0 (negsuc n) e = absurd (not_both e refl)

-- high that the line has not passed at a place is not below 0
pub reaches_0 : (step high : ℤ) → Rising step → (x : ℕ) (b : Bool) → (b || lt_z high (step *ℤ pos x)) ≡ false → le_z (pos 0) high ≡ true
reaches_0 step high r x true e = absurd (not_both refl e)
reaches_0 step high r x false e =
    under_before high 0 (r.size * x) zero-le (sym (ap (λ (z : ℤ). le_z z high) (value step r x)) ∙ le_not (step *ℤ pos x) high ∙ ap not e)

-- as the machine has them
pub less_one : (low : ℤ) (l : ℕ) → low ≡ pos (suc l) → In (2 ^ 61) low → Val (2 ^ 61 + 1) (to_z w64 (of_z w64 (to_z w64 (of_z w64 low) -ℤ pos 1))) (pos l)
less_one low l e h =
    let v = minus tt (arg tt h) (lit (pos 1)) in
    let is : low -ℤ pos 1 ≡ pos l = ap (λ (z : ℤ). z -ℤ pos 1) e ∙ -ℤ_one (pos (suc l)) in
    record { is = v.is ∙ is; bound = subst (λ (z : ℤ). nat_abs z ≤ 2 ^ 61 + 1) is v.bound }

pub rising_in : {step : ℤ} → Rising step → In (2 ^ 49) step
rising_in r = in_eq r.is (record { bound = r.small })

pub rising_has : {step : ℤ} → (r : Rising step) → Val (2 ^ 49) (to_z w64 (of_z w64 step)) (pos r.size)
rising_has r = record { is = (arg tt (rising_in r)).is ∙ r.is; bound = r.small }

pub rising_is : {m step : ℤ} → m ≡ step → Rising step → Rising m
rising_is e r = record { size = r.size; is = e ∙ r.is; some = r.some; small = r.small }

pub rising_arg : {step : ℤ} → Rising step → Rising (to_z w64 (of_z w64 step))
rising_arg r = rising_is (arg tt (rising_in r)).is r

-- what a callee tells of what it was handed
pub first_is : {m n step low : ℤ} {from x : ℕ} → m ≡ step → n ≡ low → First m n from x → First step low from x
first_is p q w = record { after = w.after; reached = λ y h. sym (λ t. le_z (q t) (p t *ℤ pos y)) ∙ w.reached y h }

pub past_is : {m n step high : ℤ} {to x : ℕ} → m ≡ step → n ≡ high → Past m n to x → Past step high to x
past_is p q w = record { before = w.before; under = λ y h. sym (λ t. le_z (p t *ℤ pos y) (q t)) ∙ w.under y h }

-- a place as a signed number
pub zero_in : In 255 (pos 0)
zero_in = in_lit 255 (pos 0) tt

pub place_in : {n : ℕ} → n < 256 → In 255 (to_z w64 n)
place_in h = in_eq (signed h) (record { bound = omega arith })

-- a step above 0, by the test
pub rising : (step : ℤ) → In (2 ^ 49) step → lt_z (pos 0) step ≡ true → Rising step
rising (pos n) h e = record { size = n; is = refl; some = ltb-true 0 n e; small = h.bound }
rising (negsuc n) h e = absurd (not_both e refl)

pub rising_back : (step : ℤ) → In (2 ^ 49) step → lt_z step (pos 0) ≡ true → Rising (neg_ℤ step)
rising_back (pos n) h e = absurd (below (ltb-true n 0 e))
  where
    below : {n : ℕ} → n < 0 → ⊥
    below h = omega arith
rising_back (negsuc n) h e = record { size = suc n; is = refl; some = omega arith; small = h.bound }

-- a step that is 0
pub level : (step : ℤ) → lt_z (pos 0) step ≡ false → lt_z step (pos 0) ≡ false → step ≡ pos 0
level (pos zero) e f = refl
level (pos (suc n)) e f = absurd (not_both (lt-ltb 0 (suc n) (omega arith)) e)
level (negsuc n) e f = absurd (not_both refl f)

pub lies_level : (step low high : ℤ) → step ≡ pos 0 → (x : ℕ) → lies step low high x ≡ (le_z low (pos 0) && le_z (pos 0) high)
lies_level step low high e x = let v : step *ℤ pos x ≡ pos 0 = ap (λ (z : ℤ). z *ℤ pos x) e ∙ zero-*ℤ (pos x) in λ t. le_z low (v t) && le_z (v t) high

-- a falling line, upside down
pub lies_back : (step low high : ℤ) (x : ℕ) → lies (neg_ℤ step) (neg_ℤ high) (neg_ℤ low) x ≡ lies step low high x
lies_back step low high x =
    let v : neg_ℤ step *ℤ pos x ≡ neg_ℤ (step *ℤ pos x) = *ℤ_comm (neg_ℤ step) (pos x) ∙ mul_neg (pos x) step ∙ ap neg_ℤ (*ℤ_comm (pos x) step) in
    (λ t. le_z (neg_ℤ high) (v t) && le_z (v t) (neg_ℤ low))
    ∙ (λ t. le_z_neg high (step *ℤ pos x) t && le_z_neg (step *ℤ pos x) low t)
    ∙ and_comm (le_z (step *ℤ pos x) high) (le_z low (step *ℤ pos x))

-- ---- cuts

pub cut_same : (e a : Stretch) (p q : ℕ → Bool) → Cut e p a → ((x : ℕ) → p x ≡ q x) → Cut e q a
cut_same e a p q w h = record { places = λ x. w.places x ∙ ap (λ (b : Bool). between e x && b) (h x); within = w.within }

pub cut_then : (e a b : Stretch) (p q : ℕ → Bool) → Cut e p a → Cut a q b → Cut e (λ x. p x && q x) b
cut_then e a b p q v w =
    record { places = λ x. w.places x ∙ ap (λ (t : Bool). t && q x) (v.places x) ∙ and_assoc (between e x) (p x) (q x); within = le_trans w.within v.within }

-- what a callee tells of what it was handed
pub cut_is : (e a : Stretch) {m n o step low high : ℤ} → m ≡ step → n ≡ low → o ≡ high → Cut e (lies m n o) a → Cut e (lies step low high) a
cut_is e a p q r w = record { places = λ x. w.places x ∙ (λ t. between e x && lies (p t) (q t) (r t) x); within = w.within }

-- all of e, where nothing is cut or there is nothing to cut
pub cut_all : (e : Stretch) (p : ℕ → Bool) → ((x : ℕ) → p x ≡ true) → Cut e p e
cut_all e p h = record { places = λ x. sym (ap (λ (b : Bool). between e x && b) (h x) ∙ and_true (between e x)); within = omega arith }
  where
    and_true : (a : Bool) → (a && true) ≡ a
    and_true true = refl
    and_true false = refl

none_between : (e : Stretch) → e.to ≤ e.from → (x : ℕ) → between e x ≡ false
none_between e h x =
    ⊎_elim (λ k. ap (λ (b : Bool). leb e.from x && b) (le-ltb x e.to (omega arith)) ∙ and-false (leb e.from x)) (λ k. ap (λ (b : Bool). b && ltb x e.to) (lt-leb e.from x k)) (le_or_lt e.from x)

pub cut_empty : (e : Stretch) (p : ℕ → Bool) → e.to ≤ e.from → Cut e p e
cut_empty e p h = record { places = λ x. none_between e h x ∙ sym (ap (λ (b : Bool). b && p x) (none_between e h x)); within = omega arith }

-- nothing of it
abbrev pub nothing : Stretch
nothing = record { from = 0; to = 0 }

pub cut_nothing : (e : Stretch) (p : ℕ → Bool) → ((x : ℕ) → between e x ≡ true → p x ≡ false) → Cut e p nothing
cut_nothing e p h = record { places = λ x. none_between nothing (omega arith) x ∙ sym (go x (between e x) refl); within = omega arith }
  where
    go : (x : ℕ) (b : Bool) → between e x ≡ b → (b && p x) ≡ false
    go x true w = h x w
    go x false w = refl

-- the places from where low is reached up to where high is passed
pub cut_between : (e : Stretch) (step low high : ℤ) (f t : ℕ) → First step low e.from f → Past step high e.to t → Cut e (lies step low high) (record { from = f; to = t })
cut_between e step low high f t v w = record { places = λ x. ⊎_elim (λ h. ⊎_elim (λ k. over x k) (λ k. inside x h k) (le_or_lt e.to x)) (λ h. early x h) (le_or_lt e.from x); within = w.before }
  where
    inside : (x : ℕ) → e.from ≤ x → x < e.to → (leb f x && ltb x t) ≡ ((leb e.from x && ltb x e.to) && lies step low high x)
    inside x h k =
        sym (λ i. v.reached x h i && w.under x k i) ∙ sym (λ i. (le-leb e.from x h i && lt-ltb x e.to k i) && lies step low high x)

    early : (x : ℕ) → x < e.from → (leb f x && ltb x t) ≡ ((leb e.from x && ltb x e.to) && lies step low high x)
    early x h =
        let a = v.after in
        ap (λ (b : Bool). b && ltb x t) (lt-leb f x (omega arith)) ∙ sym (ap (λ (b : Bool). (b && ltb x e.to) && lies step low high x) (lt-leb e.from x h))

    over : (x : ℕ) → e.to ≤ x → (leb f x && ltb x t) ≡ ((leb e.from x && ltb x e.to) && lies step low high x)
    over x h =
        let a = w.before in
        ap (λ (b : Bool). leb f x && b) (le-ltb x t (omega arith)) ∙ and-false (leb f x)
        ∙ sym (ap (λ (b : Bool). (leb e.from x && b) && lies step low high x) (le-ltb x e.to h) ∙ ap (λ (b : Bool). b && lies step low high x) (and-false (leb e.from x)))

-- ---- the cells that a band leaves of a row, as a line

-- a number added on one side is taken off on the other
shifted : (low high base v : ℤ) → (le_z (low -ℤ base) v && le_z v (high -ℤ base)) ≡ (le_z low (v +ℤ base) && le_z (v +ℤ base) high)
shifted low high base v = λ t. lower t && upper t
  where
    lower : le_z (low -ℤ base) v ≡ le_z low (v +ℤ base)
    lower = le_not (low -ℤ base) v ∙ ap not (lt_more low base v) ∙ sym (le_not low (v +ℤ base))

    upper : le_z v (high -ℤ base) ≡ le_z (v +ℤ base) high
    upper =
        le_not v (high -ℤ base)
        ∙ ap not (lt_less high (neg_ℤ base) v ∙ ap (λ (z : ℤ). lt_z high (v +ℤ z)) (neg_ℤ-neg_ℤ base))
        ∙ sym (le_not (v +ℤ base) high)

pub line_i : (s : Band) (j k : ℤ) (x : ℕ) → lies s.x (s.low -ℤ (s.y *ℤ j +ℤ s.z *ℤ k)) (s.high -ℤ (s.y *ℤ j +ℤ s.z *ℤ k)) x ≡ on_axis_i s j k x
line_i s j k x =
    let p = sym (+ℤ_assoc (s.x *ℤ pos x) (s.y *ℤ j) (s.z *ℤ k)) in
    shifted s.low s.high (s.y *ℤ j +ℤ s.z *ℤ k) (s.x *ℤ pos x) ∙ (λ t. le_z s.low (p t) && le_z (p t) s.high)

-- ---- what a direction says nothing of

keeps_at : (s : Band) {v w : ℤ} → v ≡ w → (le_z s.low v && le_z v s.high) ≡ (le_z s.low w && le_z w s.high)
keeps_at s p = λ t. le_z s.low (p t) && le_z (p t) s.high

-- a band with its axes turned: a row along j, and one along k, as a row along i
abbrev pub turned_j : Band → Band
turned_j s = record { x = s.y; y = s.x; z = s.z; low = s.low; high = s.high }

abbrev pub turned_k : Band → Band
turned_k s = record { x = s.z; y = s.x; z = s.y; low = s.low; high = s.high }

pub turn_j : (s : Band) (i k : ℤ) (x : ℕ) → on_axis_i (turned_j s) i k x ≡ on_axis_j s i k x
turn_j s i k x = keeps_at s (ap (λ (w : ℤ). w +ℤ s.z *ℤ k) (+ℤ_comm (s.y *ℤ pos x) (s.x *ℤ i)))

pub turn_k : (s : Band) (i j : ℤ) (x : ℕ) → on_axis_i (turned_k s) i j x ≡ on_axis_k s i j x
turn_k s i j x = keeps_at s (+ℤ_assoc (s.z *ℤ pos x) (s.x *ℤ i) (s.y *ℤ j) ∙ +ℤ_comm (s.z *ℤ pos x) (s.x *ℤ i +ℤ s.y *ℤ j))

-- a band, and a row, as the machine has them
abbrev pub read_band : Band → Band
read_band s =
    record { x = to_z w64 (of_z w64 s.x); y = to_z w64 (of_z w64 s.y); z = to_z w64 (of_z w64 s.z); low = to_z w64 (of_z w64 s.low); high = to_z w64 (of_z w64 s.high) }

pub band_in : (s : Band) → BandFits s → BandFits (read_band s)
band_in s h = record { x_in = v_in (arg tt h.x_in); y_in = v_in (arg tt h.y_in); z_in = v_in (arg tt h.z_in); low_in = v_in (arg tt h.low_in); high_in = v_in (arg tt h.high_in) }

pub band_read : (s : Band) → BandFits s → read_band s ≡ s
band_read s h = λ t. record { x = (arg tt h.x_in).is t; y = (arg tt h.y_in).is t; z = (arg tt h.z_in).is t; low = (arg tt h.low_in).is t; high = (arg tt h.high_in).is t }

pub row_read : (s : Band) (a b : ℤ) (x : ℕ) → BandFits s → In 255 a → In 255 b → on_axis_i (read_band s) (to_z w64 (of_z w64 a)) (to_z w64 (of_z w64 b)) x ≡ on_axis_i s a b x
row_read s a b x h p q = λ t. on_axis_i (band_read s h t) ((arg tt p).is t) ((arg tt q).is t) x

module _ (s : Three) (h : Crosswise s) (i j k : ℤ) where
  free_x : kept s.x i j k ≡ kept s.x (pos 0) j k
  free_x = keeps_at s.x (sym (products_are s h i j k).0 ∙ (products_are s h (pos 0) j k).0)

  free_y : kept s.y i j k ≡ kept s.y i (pos 0) k
  free_y = keeps_at s.y (sym (products_are s h i j k).1 ∙ (products_are s h i (pos 0) k).1)

  free_z : kept s.z i j k ≡ kept s.z i j (pos 0)
  free_z = keeps_at s.z (sym (products_are s h i j k).2 ∙ (products_are s h i j (pos 0)).2)

module _ (s : Three) (h : Axial s) (i j k : ℤ) where
  only_x : kept s.x i (pos 0) (pos 0) ≡ kept s.x i j k
  only_x = keeps_at s.x (sym (axes_are s h i (pos 0) (pos 0)).0 ∙ (axes_are s h i j k).0)

  only_y : kept s.y (pos 0) j (pos 0) ≡ kept s.y i j k
  only_y = keeps_at s.y (sym (axes_are s h (pos 0) j (pos 0)).1 ∙ (axes_are s h i j k).1)

  only_z : kept s.z (pos 0) (pos 0) k ≡ kept s.z i j k
  only_z = keeps_at s.z (sym (axes_are s h (pos 0) (pos 0) k).2 ∙ (axes_are s h i j k).2)

-- ---- a block, cut along each axis

exchange : (a b c d : Bool) → ((a && b) && (c && d)) ≡ ((a && c) && (b && d))
exchange true b true d = refl
exchange true true false d = refl
exchange true false false d = refl
exchange false b c d = refl

pub clipped : (s : Three) (b a : Block) → Axial s → Cut b.i (on_axis_i s.x (pos 0) (pos 0)) a.i → Cut b.j (on_axis_j s.y (pos 0) (pos 0)) a.j → Cut b.k (on_axis_k s.z (pos 0) (pos 0)) a.k → Clipped s b a
unfolding holds
clipped s b a h u v w =
    record {
      cells = λ c.
          let i = pos c.i in
          let j = pos c.j in
          let k = pos c.k in
          let x = u.places c.i ∙ ap (λ (t : Bool). between b.i c.i && t) (only_x s h i j k) in
          let y = v.places c.j ∙ ap (λ (t : Bool). between b.j c.j && t) (only_y s h i j k) in
          let z = w.places c.k ∙ ap (λ (t : Bool). between b.k c.k && t) (only_z s h i j k) in
          (λ t. x t && y t && z t)
          ∙ ap (λ (t : Bool). t && (between b.k c.k && kept s.z i j k)) (exchange (between b.i c.i) (kept s.x i j k) (between b.j c.j) (kept s.y i j k))
          ∙ exchange (between b.i c.i && between b.j c.j) (kept s.x i j k && kept s.y i j k) (between b.k c.k) (kept s.z i j k);
      i_within = u.within;
      j_within = v.within;
      k_within = w.within;
    }

-- ---- the thirteen, by what each says nothing of

-- each of a number of tests: from the whole to each, and back
module _ (a n x y z u v w p q r : Bool) where
  grouped : (a && n && (x && y && z) && (u && v && w) && (p && q && r)) ≡ (a && (x && u && p) && (y && v && q) && (n && z && w && r))
  grouped = alike _ _ (λ h. forth h) (λ h. back h)
    where
      alike : (s t : Bool) → (s ≡ true → t ≡ true) → (t ≡ true → s ≡ true) → s ≡ t
      alike true t f g = sym (f refl)
      alike false true f g = g refl
      alike false false f g = refl

      forth : (a && n && (x && y && z) && (u && v && w) && (p && q && r)) ≡ true → (a && (x && u && p) && (y && v && q) && (n && z && w && r)) ≡ true
      forth h =
          let h1 = both_true (a && n && (x && y && z) && (u && v && w)) (p && q && r) h in
          let h2 = both_true (a && n && (x && y && z)) (u && v && w) h1.0 in
          let h3 = both_true (a && n) (x && y && z) h2.0 in
          let h4 = both_true a n h3.0 in
          let e = three x y z h3.1 in
          let f = three u v w h2.1 in
          let g = three p q r h1.1 in
          rw (h4.0, h4.1, e.0, e.1, e.2, f.0, f.1, f.2, g.0, g.1, g.2)
        where
          three : (b c d : Bool) → (b && c && d) ≡ true → (b ≡ true) × (c ≡ true) × (d ≡ true)
          three true true true h = (refl, refl, refl)
          three true true false h = (refl, refl, h)
          three true false d h = absurd (not_both h refl)
          three false c d h = absurd (not_both h refl)

      back : (a && (x && u && p) && (y && v && q) && (n && z && w && r)) ≡ true → (a && n && (x && y && z) && (u && v && w) && (p && q && r)) ≡ true
      back h =
          let h1 = both_true (a && (x && u && p) && (y && v && q)) (n && z && w && r) h in
          let h2 = both_true (a && (x && u && p)) (y && v && q) h1.0 in
          let h3 = both_true a (x && u && p) h2.0 in
          let e = three x u p h3.1 in
          let f = three y v q h2.1 in
          let g = both_true (n && z && w) r h1.1 in
          let k = three n z w g.0 in
          rw (h3.0, e.0, e.1, e.2, f.0, f.1, f.2, k.0, k.1, k.2, g.1)
        where
          three : (b c d : Bool) → (b && c && d) ≡ true → (b ≡ true) × (c ≡ true) × (d ≡ true)
          three true true true h = (refl, refl, refl)
          three true true false h = (refl, refl, h)
          three true false d h = absurd (not_both h refl)
          three false c d h = absurd (not_both h refl)

pub layer_all : (s : Bands) → BandsFit s → (i j k : ℕ) → kept_all s (record { i = i; j = j; k = k }) ≡ (axes_leave s.axes (record { i = i; j = j; k = k }) && across_x s k j && across_y s k i && rest_of_row s j k i)
unfolding kept_all
layer_all s f i j k =
    let x = pos i in
    let y = pos j in
    let z = pos k in
    let e = f.edge01_flat in
    let g = f.edge12_flat in
    let h = f.edge20_flat in
    grouped (kept_three s.axes x y z) (kept s.normal x y z) (kept s.edge01.x x y z) (kept s.edge01.y x y z) (kept s.edge01.z x y z) (kept s.edge12.x x y z) (kept s.edge12.y x y z) (kept s.edge12.z x y z) (kept s.edge20.x x y z) (kept s.edge20.y x y z) (kept s.edge20.z x y z)
    ∙ (λ t.
    kept_three s.axes x y z
    && (free_x s.edge01 e x y z t && free_x s.edge12 g x y z t && free_x s.edge20 h x y z t)
    && (free_y s.edge01 e x y z t && free_y s.edge12 g x y z t && free_y s.edge20 h x y z t)
    && (kept s.normal x y z && free_z s.edge01 e x y z t && free_z s.edge12 g x y z t && free_z s.edge20 h x y z t))

-- a cell that the thirteen leave is left by each group of them
module _ (s : Bands) (f : BandsFit s) (i j k : ℕ) (h : kept_all s (record { i = i; j = j; k = k }) ≡ true) where
  parts_kept : ((axes_leave s.axes (record { i = i; j = j; k = k }) ≡ true) × (across_x s k j ≡ true)) × (across_y s k i ≡ true)
  parts_kept =
      let h1 = both_true (axes_leave s.axes (record { i = i; j = j; k = k }) && across_x s k j && across_y s k i) (rest_of_row s j k i) (sym (layer_all s f i j k) ∙ h) in
      let h2 = both_true (axes_leave s.axes (record { i = i; j = j; k = k }) && across_x s k j) (across_y s k i) h1.0 in
      (both_true (axes_leave s.axes (record { i = i; j = j; k = k })) (across_x s k j) h2.0, h2.1)

  pub kept_axes : axes_leave s.axes (record { i = i; j = j; k = k }) ≡ true
  kept_axes = parts_kept.0.0

  pub kept_x : across_x s k j ≡ true
  kept_x = parts_kept.0.1

  pub kept_y : across_y s k i ≡ true
  kept_y = parts_kept.1

-- ---- the same in a slab: the products with x change places with those with z

changed : (a n y x u p z w r : Bool) → (a && (x && u && p) && y && (n && z && w && r)) ≡ true → (a && (z && w && r) && y && (n && x && u && p)) ≡ true
changed a n y x u p z w r h =
    let h1 = both_true (a && (x && u && p) && y) (n && z && w && r) h in
    let h2 = both_true (a && (x && u && p)) y h1.0 in
    let h3 = both_true a (x && u && p) h2.0 in
    let h4 = both_true (x && u) p h3.1 in
    let h5 = both_true x u h4.0 in
    let g1 = both_true (n && z && w) r h1.1 in
    let g2 = both_true (n && z) w g1.0 in
    let g3 = both_true n z g2.0 in
    rw (h3.0, h2.1, h5.0, h5.1, h4.1, g3.0, g3.1, g2.1, g1.1)

regrouped : (a n y x u p z w r : Bool) → (a && (x && u && p) && y && (n && z && w && r)) ≡ (a && (z && w && r) && y && (n && x && u && p))
regrouped a n y x u p z w r = alike _ _ (changed a n y x u p z w r) (changed a n y z w r x u p)
  where
    alike : (s t : Bool) → (s ≡ true → t ≡ true) → (t ≡ true → s ≡ true) → s ≡ t
    alike true t f g = sym (f refl)
    alike false true f g = g refl
    alike false false f g = refl

pub slab_all : (s : Bands) → BandsFit s → (i j k : ℕ) → kept_all s (record { i = i; j = j; k = k }) ≡ (axes_leave s.axes (record { i = i; j = j; k = k }) && across_z s i j && across_y s k i && rest_along_k s i j k)
slab_all s f i j k =
    layer_all s f i j k
    ∙ regrouped (axes_leave s.axes (record { i = i; j = j; k = k })) (kept s.normal (pos i) (pos j) (pos k)) (across_y s k i)
    (kept s.edge01.x (pos 0) (pos j) (pos k)) (kept s.edge12.x (pos 0) (pos j) (pos k)) (kept s.edge20.x (pos 0) (pos j) (pos k))
    (kept s.edge01.z (pos i) (pos j) (pos 0)) (kept s.edge12.z (pos i) (pos j) (pos 0)) (kept s.edge20.z (pos i) (pos j) (pos 0))

-- a cell that the thirteen leave is left in its slab
pub kept_slab : (s : Bands) → BandsFit s → (i j k : ℕ) → kept_all s (record { i = i; j = j; k = k }) ≡ true → (across_z s i j ≡ true) × (across_y s k i ≡ true)
kept_slab s f i j k h =
    let a = axes_leave s.axes (record { i = i; j = j; k = k }) in
    let h1 = both_true (a && across_z s i j && across_y s k i) (rest_along_k s i j k) (sym (slab_all s f i j k) ∙ h) in
    let h2 = both_true (a && across_z s i j) (across_y s k i) h1.0 in
    ((both_true a (across_z s i j) h2.0).1, h2.1)
