-- What a flat answer says: it determines the outcome, and the outcome determines it; so two flat answers of a call coincide. Assumes nothing.
use Rattle.std.specs.Prelude.{Ok, Err}
use mathlib.Core.Bool.{false}
use mathlib.Core.Path.{◌≡◌, refl, sym, ap, subst, ◌∙◌}
use mathlib.Core.List.{List}
use Prim.Native.Nat.{ℕ}
use Rattle.grid.specs.declared.Reason.{Reason}
use Rattle.grid.specs.declared.Reason.TheVariants.{BadCount, NoPoints, BadNumber, MissingName, BadSize, BadResolution, NoExtent, BadAxis, BadBuffer, OffGrid, BadLabel, OutOfRange, WrongKind, NoRoom, BadRange, BadRecord, CutInput}
use Rattle.grid.specs.Answers.{Outcome, refuses, is_one_of, Gives}
use Rattle.capi_flat.specs.declared.Verdict.{Verdict}
use Rattle.capi_flat.specs.declared.Sized.{Sized}
use Rattle.capi_flat.specs.declared.Filled.{Filled}
use Rattle.capi_flat.specs.declared.Counted.{Counted}
use Rattle.capi_flat.specs.declared.Listed.{Listed}
use Rattle.capi_flat.specs.declared.Planned.{Planned}
use Rattle.capi_flat.specs.declared.Parted.{Parted}
use Rattle.capi_flat.specs.declared.Summarized.{Summarized}
use Rattle.capi_flat.specs.Flat.{Flat, flat_of, heard, Tells}
use Rattle.capi_flat.specs.Structs.{verdict, sized, filled, counted, listing, planned, parted, summarized}

-- ---- one law for every call

-- of an outcome that is an answer, or a refusal with one of some numbers, 0 not among them, what is heard is that outcome
pub heard_flat : {A : Type 0} (none : A) (ns : List ℕ) (o : Outcome A) → is_one_of 0 ns ≡ false → Gives ns o → heard (flat_of none o) ≡ o
heard_flat none ns (Ok a) h g = refl
heard_flat none ns (Err f) h g = by f.reason
  where
    by : (r : Reason) → heard (flat_of none (refuses r f.place)) ≡ refuses r f.place
    by BadCount = refl
    by NoPoints = refl
    by BadNumber = refl
    by MissingName = refl
    by BadSize = refl
    by BadResolution = refl
    by NoExtent = refl
    by BadAxis = refl
    by BadBuffer = refl
    by OffGrid = refl
    by BadLabel = refl
    by OutOfRange = refl
    by WrongKind = refl
    by NoRoom = refl
    by BadRange = refl
    by BadRecord = refl
    by CutInput = refl

-- a call's answer, and a buffer that it wrote, where x is what the call was given for y
pub told : {X A : Type 0} (none : A) (answer : X → Outcome A) (x y : X) (o : Outcome A) (f : Flat A) → x ≡ y → f ≡ flat_of none o → o ≡ answer x → f ≡ flat_of none (answer y)
told none answer x y o f e p q = p ∙ ap (flat_of none) (q ∙ ap answer e)

pub both : {X Y : Type 0} {x y : X} {u v : Y} → x ≡ y → u ≡ v → ◌≡◌ {A = X × Y} (x, u) (y, v)
both p q = λ t. (p t, q t)

pub wrote : {X B : Type 0} (buffer : X → B) (x y : X) (m : B) → x ≡ y → m ≡ buffer x → m ≡ buffer y
wrote buffer x y m e p = p ∙ ap buffer e

-- a call's relation, of the flat answer
pub tells : {A : Type 0} (none : A) (ns : List ℕ) (Allowed : Outcome A → Type 0) (f : Flat A) (o : Outcome A) → is_one_of 0 ns ≡ false → Gives ns o → f ≡ flat_of none o → Allowed o → Tells none Allowed f
tells none ns Allowed f o h g p a =
    let e : heard f ≡ o = ap heard p ∙ heard_flat none ns o h g in
    record { allowed = subst Allowed (sym e) a; plain = p ∙ ap (flat_of none) (sym e) }

-- ---- a struct is its number, place and values

pub verdict_one : (a b : Verdict) → verdict a ≡ verdict b → a ≡ b
verdict_one a b p = λ t. record { number = (p t).number; place = (p t).place }

pub sized_one : (a b : Sized) → sized a ≡ sized b → a ≡ b
sized_one a b p = λ t. record {
  number = (p t).number;
  place = (p t).place;
  axes = record { r0 = (p t).value.axes.r0; r1 = (p t).value.axes.r1; r2 = (p t).value.axes.r2 };
  placement = record { x = (p t).value.placement.x; y = (p t).value.placement.y; z = (p t).value.placement.z; scale = (p t).value.placement.scale; reciprocal = (p t).value.placement.reciprocal };
}

pub filled_one : (a b : Filled) → filled a ≡ filled b → a ≡ b
filled_one a b p = λ t. record { number = (p t).number; place = (p t).place; scans = (p t).value.scans; left = (p t).value.left }

pub counted_one : (a b : Counted) → counted a ≡ counted b → a ≡ b
counted_one a b p = λ t. record { number = (p t).number; place = (p t).place; count = (p t).value }

pub listed_one : (a b : Listed) → listing a ≡ listing b → a ≡ b
listed_one a b p = λ t. record { number = (p t).number; place = (p t).place; cells = (p t).value.cells; pairs = (p t).value.pairs }

pub planned_one : (a b : Planned) → planned a ≡ planned b → a ≡ b
planned_one a b p = λ t. record { number = (p t).number; place = (p t).place; first = (p t).value.first; count = (p t).value.count }

pub parted_one : (a b : Parted) → parted a ≡ parted b → a ≡ b
parted_one a b p = λ t. record { number = (p t).number; place = (p t).place; first = (p t).value.first; second = (p t).value.second }

pub summarized_one : (a b : Summarized) → summarized a ≡ summarized b → a ≡ b
summarized_one a b p = λ t. record {
  number = (p t).number;
  place = (p t).place;
  axes = record { r0 = (p t).value.axes.r0; r1 = (p t).value.axes.r1; r2 = (p t).value.axes.r2 };
  outside = (p t).value.outside;
  inside = (p t).value.inside;
  surface = (p t).value.surface;
  left = (p t).value.left;
  scans = (p t).value.scans;
}

-- ---- calls that go by an equation: of the struct S of any of them, seen as a flat answer by `view`. Every lent buffer is one side of an equation too

pub settled : {S A : Type 0} (view : S → Flat A) → ((a b : S) → view a ≡ view b → a ≡ b)
    → (none : A) (o : Outcome A) (a b : S) → view a ≡ flat_of none o → view b ≡ flat_of none o → a ≡ b
settled view one none o a b p q = one a b (p ∙ sym q)

-- ---- calls that go by a relation, where two outcomes that it allows are one

pub tells_one : {A B : Type 0} (none : A) (Allowed : Outcome A → B → Type 0) → ((o p : Outcome A) (x y : B) → Allowed o x → Allowed p y → (o ≡ p) × (x ≡ y))
    → (f g : Flat A) (x y : B) → Tells none (λ o. Allowed o x) f → Tells none (λ o. Allowed o y) g → (f ≡ g) × (x ≡ y)
tells_one none Allowed one f g x y p q =
    let w = one (heard f) (heard g) x y p.allowed q.allowed in
    (p.plain ∙ ap (flat_of none) w.0 ∙ sym q.plain, w.1)
