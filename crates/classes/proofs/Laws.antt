-- What the contract of `classify` says: its numbers, that a refusal leaves what is lent, that two results coincide, and what the classes mean. Assumes nothing.
use Rattle.grid.specs.declared.Refusal.{Refusal}
use Rattle.std.specs.Prelude.{Ok, Err}
use mathlib.Core.Bool.{Bool, true, false, not, ◌&&◌, ◌||◌, true≢false}
use mathlib.Core.List.{List, [], ◌∷◌}
use mathlib.Core.Logic.{◌↔◌}
use mathlib.Core.Path.{◌≡◌, refl, sym, ap, ◌∙◌}
use Prim.Native.Nat.{ℕ, ◌≤◌, ◌<◌}
use native.Mathlib.Omega.{arith}
use lib.Dec.{eqb, ltb}
use lib.ListN.{length, get_or}
use Rattle.grid.specs.Answers.{Outcome, Finds, Gives}
use Rattle.grid.proofs.Cells.{ones_at}
use Rattle.grid.proofs.Checks.{finds_if, finds_then, finds_first, gives_then, refused_same}
use Rattle.marking_mesh.specs.Faults.{names}
use Rattle.order.specs.Output.{room_fault}
use Rattle.order.proofs.Lists.{Which, none, one, more, which}
use Rattle.order.proofs.Outputs.{finds_room}
use Rattle.classes.specs.Classes.{part_names, no_class, several, class_by, parts_of, class_of, classes_of, first_bad_end, count_fault, entry_fault, ends_fault, class_fault, class_answer, class_buffer, Ended}
use Rattle.classes.proofs.Ending.{Reached, ends_fine, fine_ends}
use Rattle.grid.specs.declared.Reason.TheVariants.{BadCount, BadRange, MissingName}

-- ---- which numbers the call gives

pub classify_numbers : (entries ends : List ℕ) (count : ℕ) (o : List ℕ) → Gives (1 ∷ 4 ∷ 14 ∷ 15 ∷ []) (class_answer entries ends count o)
classify_numbers entries ends count o = gives_then ns (class_fault entries ends count (length o)) (Ok tt) all (λ f. tt)
  where
    ns : List ℕ
    ns = 1 ∷ 4 ∷ 14 ∷ 15 ∷ []

    last : Finds ns (ends_fault ends (length entries))
    last = finds_if ns (ltb (first_bad_end ends (length entries)) (length ends) || (eqb (length ends) 0 && not (eqb (length entries) 0))) BadRange (first_bad_end ends (length entries)) (Ok tt) tt tt

    all : Finds ns (class_fault entries ends count (length o))
    all =
        finds_then ns (count_fault count) _ (finds_if ns (ltb 65536 count) BadCount 0 (Ok tt) tt tt)
        (finds_then ns (entry_fault count entries) _ (finds_first ns MissingName (λ n. n) (names count) entries tt)
        (finds_then ns (room_fault (length o) count) _ (finds_room ns (length o) count tt) last))

-- ---- a refusal leaves every lent number

pub classify_refused_same : (entries ends : List ℕ) (count : ℕ) (o : List ℕ) (f : Refusal) → class_answer entries ends count o ≡ Err f → class_buffer entries ends count o ≡ o
classify_refused_same entries ends count o f h = refused_same (class_fault entries ends count (length o)) tt f o _ h

-- ---- two results that fit the promise are one

pub classify_settled : (entries ends : List ℕ) (count : ℕ) (o : List ℕ) (a b : Outcome Unit) (m n : List ℕ)
    → a ≡ class_answer entries ends count o → b ≡ class_answer entries ends count o
    → m ≡ class_buffer entries ends count o → n ≡ class_buffer entries ends count o → (a ≡ b) × (m ≡ n)
classify_settled entries ends count o a b m n e f g h = ((e ∙ sym f), g ∙ sym h)

-- ---- what the class of a triangle says

-- of n parts, of which those that pass a test name it
module _ (ok : ℕ → Bool) (n : ℕ) (few : n ≤ 65535) where
  by_none : (xs : List ℕ) → Which ok n xs → (class_by xs ≡ no_class) ↔ ((p : ℕ) → p < n → ok p ≡ false)
  unfolding class_by
  by_none xs (none z) = ((λ e. z), (λ h. refl))
  by_none xs (one p l g u) = ((λ e. absurd (omega arith)), (λ h. absurd (true≢false (sym g ∙ h p l))))
  by_none xs (more p q ps l m g f) = ((λ e. absurd (omega arith)), (λ h. absurd (true≢false (sym f ∙ h q m))))

  by_one : (xs : List ℕ) → Which ok n xs → (p : ℕ) → p < n → (class_by xs ≡ p) ↔ ((ok p ≡ true) × ((q : ℕ) → q < n → ok q ≡ true → q ≡ p))
  unfolding class_by
  by_one xs (none z) p l = ((λ e. absurd (omega arith)), (λ h. absurd (true≢false (sym h.0 ∙ z p l))))
  by_one xs (one r k g u) p l = ((λ e. (sym (ap ok e) ∙ g, λ q j f. u q j f ∙ e)), (λ h. h.1 r k g))
  by_one xs (more r s ps k m g f) p l = ((λ e. absurd (omega arith)), (λ h. absurd (omega (arith, h.1 r (omega arith) g, h.1 s m f))))

  by_several : (xs : List ℕ) → Which ok n xs
      → (class_by xs ≡ several) ↔ ((p : ℕ) × (q : ℕ) × (p < n) × (q < n) × (p ≡ q → ⊥) × (ok p ≡ true) × (ok q ≡ true))
  unfolding class_by
  by_several xs (none z) = ((λ e. absurd (omega arith)), (λ w. absurd (true≢false (sym w.5 ∙ z w.0 w.2))))
  by_several xs (one p l g u) = ((λ e. absurd (omega arith)), (λ w. absurd (w.4 (u w.0 w.2 w.5 ∙ sym (u w.1 w.3 w.6)))))
  by_several xs (more p q ps l m g f) = ((λ e. (p, q, omega arith, m, (λ z. omega arith), g, f)), (λ w. refl))

-- in the classes of `count` triangles, as the checks leave them
module _ (entries ends : List ℕ) (count t : ℕ) (h : t < count) (few : length ends ≤ 65535) where
  class_is : get_or (classes_of entries ends count) t 0 ≡ class_of entries ends t
  class_is = ones_at count (class_of entries ends) t h

  -- a number that a class is, is what the parts say
  class_says : {P : Type 0} (v : ℕ) → (class_of entries ends t ≡ v) ↔ P → (get_or (classes_of entries ends count) t 0 ≡ v) ↔ P
  class_says v w = ((λ e. w.0 (sym class_is ∙ e)), (λ x. class_is ∙ w.1 x))

  abbrev named : ℕ → Bool
  named p = part_names entries ends p t

  parts : Which named (length ends) (parts_of entries ends (length ends) t)
  parts = which named (length ends)

  -- no part names the triangle
  pub class_none : (get_or (classes_of entries ends count) t 0 ≡ no_class) ↔ ((p : ℕ) → p < length ends → part_names entries ends p t ≡ false)
  class_none = class_says no_class (by_none named (length ends) few _ parts)

  -- part p names it, and no other
  pub class_one : (p : ℕ) → p < length ends
      → (get_or (classes_of entries ends count) t 0 ≡ p) ↔ ((part_names entries ends p t ≡ true) × ((q : ℕ) → q < length ends → part_names entries ends q t ≡ true → q ≡ p))
  class_one p l = class_says p (by_one named (length ends) few _ parts p l)

  -- two different parts name it
  pub class_several : (get_or (classes_of entries ends count) t 0 ≡ several)
      ↔ ((p : ℕ) × (q : ℕ) × (p < length ends) × (q < length ends) × (p ≡ q → ⊥) × (part_names entries ends p t ≡ true) × (part_names entries ends q t ≡ true))
  class_several = class_says several (by_several named (length ends) few _ parts)

-- no fault of the ends: none falls back or lies past the list's length, they are at most 65,535, the last is the length, and without parts the list is empty
pub ends_meaning : (ends : List ℕ) (len : ℕ) → (ends_fault ends len ≡ Ok tt) ↔ (Ended ends len × Reached ends len)
ends_meaning ends len = ((λ h. ends_fine ends len h), (λ w. fine_ends ends len w.0 w.1))
