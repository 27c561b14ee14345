-- Laws of checks in a row, and of specs/Checks.antt: a check that finds no fault says that its line of the table does not hold. Assumes nothing.
use Rattle.std.specs.Prelude.{Ok, Err}
use mathlib.Core.Bool.{Bool, true, false, not, ◌||◌, true≢false, false≢true}
use mathlib.Core.Logic.{◌⊎◌, inl, inr, ⊎_elim, ◌↔◌}
use mathlib.Core.Path.{◌≡◌, refl, sym, ap, ◌∙◌, subst}
use mathlib.Core.List.{List}
use Prim.Native.Nat.{ℕ, ◌<◌, ◌≤◌}
use native.Mathlib.Omega.{arith}
use lib.Dec.{T, eqb, ltb, leb}
use lib.ListN.{length, get_or}
use borrow.Author.Tests.{eqb-true, eqb-false, eq-eqb, ne_eqb, ltb-true, ltb-false, lt-ltb, le-ltb, leb-true}
use Rattle.grid.specs.declared.Axes.{Axes}
use Rattle.grid.specs.declared.LabelSet.{LabelSet}
use Rattle.grid.specs.declared.Refusal.{Refusal}
use Rattle.grid.specs.declared.LabelRange.{LabelRange}
use Rattle.grid.specs.Refusals.{number_of}
use Rattle.grid.specs.declared.Reason.{Reason}
use Rattle.grid.specs.Answers.{Outcome, refuses, fault_if, ◌and_then◌, lent_after, Ends, is_one_of, Finds, Gives, Checked}
use Rattle.grid.specs.First.{FirstAt, first_not}
use Rattle.grid.specs.Grid.{Axis, Sound, cells, Sheet}
use Rattle.grid.specs.Checks.{first_fault, bad_axis, axes_fault, buffer_fault, grid_fault, in_range, takes, labels_fault, map_fault}
use Rattle.grid.proofs.First.{both_true, or_true, before_first, at_first, first_is, first_one}
use Rattle.grid.specs.declared.Reason.TheVariants.{BadAxis, BadBuffer, BadLabel}

-- ---- a row of checks

pub fault_here : (b : Bool) (n : Reason) (k : ℕ) (g : Checked) → b ≡ true → refuses n k ≡ fault_if b n k g
fault_here true n k g h = refl
fault_here false n k g h = absurd (false≢true h)

pub fault_not : (b : Bool) (n : Reason) (k : ℕ) (g : Checked) → b ≡ false → g ≡ fault_if b n k g
fault_not true n k g h = absurd (true≢false h)
fault_not false n k g h = refl

pub no_fault : (f : Refusal) → ◌≡◌ {A = Checked} (Err f) (Ok tt) → ⊥
no_fault f e = let z : ◌≡◌ {A = ℕ} 0 1 = cc in omega arith

-- no fault in a row says that no test of it holds
pub passed : (b : Bool) (n : Reason) (k : ℕ) (g : Checked) → fault_if b n k g ≡ Ok tt → (b ≡ false) × (g ≡ Ok tt)
passed true n k g h = absurd (no_fault (record { reason = n; place = k }) h)
passed false n k g h = (refl, h)

pub both_fine : (a b : Checked) → (a and_then b) ≡ Ok tt → (a ≡ Ok tt) × (b ≡ Ok tt)
both_fine (Err f) b h = absurd (no_fault f h)
both_fine (Ok u) b h = (refl, h)

-- a call that is refused by one check, or passes it
pub refused_here : {A : Type 0} (b : Bool) (n : Reason) (k : ℕ) (o : Outcome A) → b ≡ true → refuses n k ≡ (fault_if b n k (Ok tt) and_then o)
refused_here true n k o h = refl
refused_here false n k o h = absurd (false≢true h)

pub refused_not : {A : Type 0} (b : Bool) (n : Reason) (k : ℕ) (o : Outcome A) → b ≡ false → o ≡ (fault_if b n k (Ok tt) and_then o)
refused_not true n k o h = absurd (true≢false h)
refused_not false n k o h = refl

-- ---- which numbers a row of checks can give

module _ (ns : List ℕ) where
  pub finds_if : (b : Bool) (n : Reason) (k : ℕ) (g : Checked) → T (is_one_of (number_of n) ns) → Finds ns g → Finds ns (fault_if b n k g)
  finds_if true n k g h r = h
  finds_if false n k g h r = r

  pub gives_then : {A : Type 0} (f : Checked) (o : Outcome A) → Finds ns f → (f ≡ Ok tt → Gives ns o) → Gives ns (f and_then o)
  gives_then (Err f) o h r = h
  gives_then (Ok u) o h r = r refl

  pub finds_then : (a b : Checked) → Finds ns a → Finds ns b → Finds ns (a and_then b)
  finds_then a b h r = gives_then a b h (λ e. r)

  -- a check of every element has its own number; 8 and 9 are those of a grid
  pub finds_first : {A : Type 0} (n : Reason) (place : ℕ → ℕ) (ok : A → Bool) (xs : List A) → T (is_one_of (number_of n) ns) → Finds ns (first_fault n place ok xs)
  finds_first n place ok xs h = finds_if (ltb (first_not ok xs) (length xs)) n (place (first_not ok xs)) (Ok tt) h tt

  pub finds_axes : (r : Axes) → T (is_one_of 8 ns) → Finds ns (axes_fault r)
  finds_axes r h = finds_if (bad_axis r.r0) BadAxis 0 _ h (finds_if (bad_axis r.r1) BadAxis 1 _ h (finds_if (bad_axis r.r2) BadAxis 2 (Ok tt) h tt))

  pub finds_grid : (r : Axes) (len : ℕ) → T (is_one_of 8 ns) → T (is_one_of 9 ns) → Finds ns (grid_fault r len)
  finds_grid r len h g = finds_then (axes_fault r) (buffer_fault r len) (finds_axes r h) (finds_if (not (eqb len (cells r))) BadBuffer 0 (Ok tt) g tt)

-- a call that answers passed its checks
pub answered : {A : Type 0} (f : Checked) (o : Outcome A) (a : A) → (f and_then o) ≡ Ok a → (f ≡ Ok tt) × (o ≡ Ok a)
answered (Err f) o a h = absurd (let z : ◌≡◌ {A = ℕ} 0 1 = cc in omega arith)
answered (Ok u) o a h = (refl, h)

-- ---- 8

pub or_false : (a b : Bool) → (a || b) ≡ false → (a ≡ false) × (b ≡ false)
or_false true b h = absurd (true≢false h)
or_false false b h = (refl, h)

axis_fine : (n : ℕ) → bad_axis n ≡ false → Axis n
axis_fine n h =
    let p = or_false (eqb n 0) (ltb 256 n) h in
    let z = eqb-false n 0 p.0 in
    record { some = omega arith; most = ltb-false 256 n p.1 }

fine_axis : (n : ℕ) → Axis n → bad_axis n ≡ false
fine_axis n h = ap (λ (b : Bool). b || ltb 256 n) (ne_eqb n 0 (λ e. omega (arith, h.some))) ∙ le-ltb 256 n h.most

-- no axis is at fault exactly if each has 1 to 256 cells
pub axes_fine : (r : Axes) → (axes_fault r ≡ Ok tt) ↔ Sound r
axes_fine r = (from, back)
  where
    from : axes_fault r ≡ Ok tt → Sound r
    from h =
        let x = passed (bad_axis r.r0) BadAxis 0 _ h in
        let y = passed (bad_axis r.r1) BadAxis 1 _ x.1 in
        let z = passed (bad_axis r.r2) BadAxis 2 _ y.1 in
        record { axis0 = axis_fine r.r0 x.0; axis1 = axis_fine r.r1 y.0; axis2 = axis_fine r.r2 z.0 }

    back : Sound r → axes_fault r ≡ Ok tt
    back s =
        sym
        (fault_not (bad_axis r.r2) BadAxis 2 (Ok tt) (fine_axis r.r2 s.axis2)
        ∙ fault_not (bad_axis r.r1) BadAxis 1 _ (fine_axis r.r1 s.axis1)
        ∙ fault_not (bad_axis r.r0) BadAxis 0 _ (fine_axis r.r0 s.axis0))

-- ---- 9

pub not_false : (b : Bool) → not b ≡ false → b ≡ true
not_false true h = refl
not_false false h = absurd (true≢false h)

pub buffer_fine : (r : Axes) (n : ℕ) → (buffer_fault r n ≡ Ok tt) ↔ (n ≡ cells r)
buffer_fine r n = (
  (λ h. eqb-true n (cells r) (not_false (eqb n (cells r)) (passed (not (eqb n (cells r))) BadBuffer 0 (Ok tt) h).0)),
  (λ e. sym (fault_not (not (eqb n (cells r))) BadBuffer 0 (Ok tt) (ap not (eq-eqb n (cells r) e)))),
)

-- 8 and 9 leave a label for each cell
pub sheet_fine : (r : Axes) (l : List ℕ) → grid_fault r (length l) ≡ Ok tt → Sheet r l
sheet_fine r l h =
    let e = both_fine (axes_fault r) (buffer_fault r (length l)) h in
    record { sound = (axes_fine r).0 e.0; size = (buffer_fine r (length l)).0 e.1 }

-- ---- a check of every element, as 3, 4 and 11 are

module _ {A : Type 0} (n : Reason) (place : ℕ → ℕ) (ok : A → Bool) (d : A) (xs : List A) where
  abbrev p : ℕ
  p = first_not ok xs

  all_pass : length xs ≤ p → (k : ℕ) → k < length xs → ok (get_or xs k d) ≡ true
  all_pass h k l = before_first ok d xs k (omega (arith, h))

  -- no fault exactly if every element passes
  pub first_fine : (first_fault n place ok xs ≡ Ok tt) ↔ ((k : ℕ) → k < length xs → ok (get_or xs k d) ≡ true)
  first_fine = (
    (λ h. all_pass (ltb-false p (length xs) (passed (ltb p (length xs)) n (place p) (Ok tt) h).0)),
    (λ h. sym (fault_not (ltb p (length xs)) n (place p) (Ok tt) (none h (ltb p (length xs)) refl))),
  )
    where
      none : ((k : ℕ) → k < length xs → ok (get_or xs k d) ≡ true) → (b : Bool) → ltb p (length xs) ≡ b → ltb p (length xs) ≡ false
      none h false e = e
      none h true e = let l = ltb-true p (length xs) e in absurd (true≢false (sym (h p l) ∙ at_first ok d xs l))

  -- a fault at k exactly if k is made of the first place at fault
  pub first_fault_lem : (k : ℕ) → FirstAt ok d xs k → first_fault n place ok xs ≡ refuses n (place k)
  first_fault_lem k w =
      let e = first_one ok d xs k w in
      let l = w.within in
      sym (fault_here (ltb p (length xs)) n (place p) (Ok tt) (lt-ltb p (length xs) (subst (λ (i : ℕ). i < length xs) e l))) ∙ ap (λ (i : ℕ). refuses n (place i)) (sym e)

  pub fault_first : (f : Refusal) → first_fault n place ok xs ≡ Err f → (k : ℕ) × FirstAt ok d xs k × (f.reason ≡ n) × (f.place ≡ place k)
  fault_first f h = go (ltb p (length xs)) refl h
    where
      same : (a b : Refusal) → ◌≡◌ {A = Checked} (Err a) (Err b) → a ≡ b
      same a b e = cc

      go : (b : Bool) → ltb p (length xs) ≡ b → fault_if b n (place p) (Ok tt) ≡ Err f → (k : ℕ) × FirstAt ok d xs k × (f.reason ≡ n) × (f.place ≡ place k)
      go true e r = let s = same (record { reason = n; place = place p }) f r in (p, first_is ok d xs (ltb-true p (length xs) e), sym (ap (λ (x : Refusal). x.reason) s), sym (ap (λ (x : Refusal). x.place) s))
      go false e r = absurd (no_fault f (sym r))

-- ---- labels of a set

-- what the test says
pub taken_means : (s : LabelSet) (v : ℕ) → takes s v ≡ true → ((s.one.low ≤ v) × (v ≤ s.one.high)) ⊎ ((s.other.low ≤ v) × (v ≤ s.other.high))
taken_means s v h = ⊎_elim (λ e. inl (of s.one e)) (λ e. inr (of s.other e)) (or_true (in_range s.one v) (in_range s.other v) h)
  where
    of : (a : LabelRange) → in_range a v ≡ true → (a.low ≤ v) × (v ≤ a.high)
    of a e = let q = both_true (leb a.low v) (leb v a.high) e in (leb-true a.low v q.0, leb-true v a.high q.1)

-- ---- a call that goes by a relation

-- two results of it coincide where two of the relation do
pub ends_one : {A B : Type 0} (f : Checked) (before : B) (Allows : A → B → Type 0) → ((a b : A) (x y : B) → f ≡ Ok tt → Allows a x → Allows b y → (a ≡ b) × (x ≡ y))
    → (o p : Outcome A) (x y : B) → Ends f before Allows o x → Ends f before Allows p y → (o ≡ p) × (x ≡ y)
ends_one (Err f) before Allows h o p x y a b = (a.0 ∙ sym b.0, a.1 ∙ sym b.1)
ends_one (Ok z) before Allows h (Ok a) (Ok b) x y u v = let w = h a b x y refl u v in (ap Ok w.0, w.1)
ends_one (Ok z) before Allows h (Ok a) (Err g) x y u v = absurd v
ends_one (Ok z) before Allows h (Err g) p x y u v = absurd u

-- a refusal leaves the buffer
pub ends_same : {A B : Type 0} (f : Checked) (before : B) (Allows : A → B → Type 0) (g : Refusal) (after : B) → Ends f before Allows (Err g) after → after ≡ before
ends_same (Err f) before Allows g after e = e.1
ends_same (Ok u) before Allows g after e = absurd e

-- and has one of the numbers that the checks find
pub ends_gives : {A B : Type 0} (ns : List ℕ) (f : Checked) (before : B) (Allows : A → B → Type 0) (o : Outcome A) (after : B) → Finds ns f → Ends f before Allows o after → Gives ns o
ends_gives ns (Err f) before Allows o after h e = subst (Gives ns) (sym e.0) h
ends_gives ns (Ok u) before Allows (Ok a) after h e = tt
ends_gives ns (Ok u) before Allows (Err g) after h e = absurd e

-- a refusal leaves a lent buffer as it was
pub refused_same : {A B : Type 0} (f : Checked) (a : A) (g : Refusal) (before after : B) → (f and_then Ok a) ≡ Err g → lent_after f before after ≡ before
refused_same (Err f) a g before after h = refl
refused_same (Ok u) a g before after h = absurd (let z : ◌≡◌ {A = ℕ} 0 1 = cc in omega arith)

-- ---- a map's own checks

-- the map fits its axes, and has no other labels
pub map_fine : (s : LabelSet) (r : Axes) (l : List ℕ) → map_fault s r l ≡ Ok tt → Sheet r l × ((n : ℕ) → n < length l → takes s (get_or l n 0) ≡ true)
map_fine s r l h =
    let e = both_fine (grid_fault r (length l)) (labels_fault s l) h in
    (sheet_fine r l e.0, (first_fine BadLabel (λ n. n) (takes s) 0 l).0 e.1)

pub fine_map : (s : LabelSet) (r : Axes) (l : List ℕ) → Sheet r l → ((n : ℕ) → n < length l → takes s (get_or l n 0) ≡ true) → map_fault s r l ≡ Ok tt
fine_map s r l h a = fine_then (fine_then ((axes_fine r).1 h.sound) ((buffer_fine r (length l)).1 h.size)) ((first_fine BadLabel (λ n. n) (takes s) 0 l).1 a)
  where
    fine_then : {a b : Checked} → a ≡ Ok tt → b ≡ Ok tt → (a and_then b) ≡ Ok tt
    fine_then p q t = p t and_then q t

pub finds_map : (ns : List ℕ) (s : LabelSet) (r : Axes) (l : List ℕ) → T (is_one_of 8 ns) → T (is_one_of 9 ns) → T (is_one_of 11 ns) → Finds ns (map_fault s r l)
finds_map ns s r l a b c = finds_then ns (grid_fault r (length l)) (labels_fault s l) (finds_grid ns r (length l) a b) (finds_first ns BadLabel (λ n. n) (takes s) l c)
