-- Laws of the checks of `classify`: the search for the first end at fault, and what no fault says. Assumes nothing.
use Rattle.std.specs.Prelude.{Ok}
use mathlib.Core.Bool.{Bool, true, false, not, ◌&&◌, ◌||◌}
use mathlib.Core.List.{List}
use mathlib.Core.Logic.{⊎_elim}
use mathlib.Core.Path.{◌≡◌, refl, sym, ap, ◌∙◌}
use Prim.Native.Nat.{ℕ, zero, suc, ◌+◌, ◌-◌, ◌≤◌, ◌<◌}
use native.Mathlib.Omega.{arith}
use lib.Dec.{eqb, ltb}
use lib.ListN.{length, get_or}
use borrow.Author.Tests.{le-ltb, ltb-true, ltb-false, eq-eqb, ne_eqb, eqb-true, eqb-false, not-false}
use Rattle.grid.specs.Answers.{◌and_then◌}
use Rattle.grid.specs.Grid.{first_ones}
use Rattle.grid.proofs.Cells.{dec_eq, ones_length, ones_at}
use Rattle.grid.proofs.Checks.{passed, both_fine, or_false, fault_not, first_fine}
use Rattle.grid.proofs.First.{le_or_lt, Looking, looking_on, looking_here, looking_done, before_first, every_all, every_passes}
use Rattle.marking_mesh.specs.Faults.{names}
use Rattle.order.specs.Output.{room_fault}
use Rattle.order.proofs.Outputs.{room_fine}
use Rattle.classes.specs.Classes.{begin_of, end_of, bad_end, first_bad_end, ends_fault, count_fault, entry_fault, class_fault, NamedBelow, Ended}
use Rattle.grid.specs.declared.Reason.TheVariants.{BadRange, MissingName}

and_false : (a b : Bool) → a ≡ true → (a && b) ≡ false → b ≡ false
and_false a b e h = sym (ap (λ (t : Bool). t && b) e) ∙ h

module _ (ends : List ℕ) (len : ℕ) where
  abbrev pub sound : ℕ → Bool
  sound p = not (bad_end ends len p)

  abbrev pub numbers : List ℕ
  numbers = first_ones (length ends) (λ p. p)

  -- ---- a loop that stands at part p

  module _ (p : ℕ) (w : Looking sound numbers p) where
    module _ (h : p < length ends) where
      here : (b : Bool) → bad_end ends len p ≡ b → sound (get_or numbers p 0) ≡ not b
      here b e = ap sound (ones_at (length ends) (λ p. p) p h) ∙ ap not e

      within : p < length numbers
      within = omega (arith, ones_length (length ends) (λ p. p))

      pub ends_on : bad_end ends len p ≡ false → Looking sound numbers (p + 1)
      ends_on e = looking_on sound 0 numbers p within w (here false e)

      pub ends_here : bad_end ends len p ≡ true → p ≡ first_bad_end ends len
      ends_here e = looking_here sound 0 numbers p within w (here true e)

    pub ends_done : length ends ≤ p → length ends ≡ first_bad_end ends len
    ends_done h = sym (ones_length (length ends) (λ p. p)) ∙ looking_done sound 0 numbers p (omega (arith, ones_length (length ends) (λ p. p))) w

  -- ---- what no fault of the ends says

  abbrev stray : Bool
  stray = eqb (length ends) 0 && not (eqb len 0)

  -- the last end is the list's length, and without parts there is no entry
  pub record Reached : Type 0 where
    pub last : (p : ℕ) → p + 1 ≡ length ends → end_of ends p ≡ len
    pub none : length ends ≡ 0 → len ≡ 0

  module _ (h : ends_fault ends len ≡ Ok tt) where
    tests : (ltb (first_bad_end ends len) (length ends) ≡ false) × (stray ≡ false)
    tests =
        let t = ltb (first_bad_end ends len) (length ends) in
        or_false t stray (passed (t || stray) BadRange (first_bad_end ends len) (Ok tt) h).0

    good : (p : ℕ) → p < length ends → (ltb (end_of ends p) (begin_of ends p) ≡ false) × (eqb p 65535 ≡ false) × ((eqb (p + 1) (length ends) && not (eqb (end_of ends p) len)) ≡ false)
    good p l =
        let fall = ltb (end_of ends p) (begin_of ends p) in
        let end = eqb (p + 1) (length ends) && not (eqb (end_of ends p) len) in
        let s = before_first sound 0 numbers p (omega (arith, ltb-false (first_bad_end ends len) (length ends) tests.0)) in
        let b = sym (not_not (bad_end ends len p)) ∙ ap not (sym (ap sound (ones_at (length ends) (λ p. p) p l)) ∙ s) in
        let x = or_false (fall || eqb p 65535) end b in
        let y = or_false fall (eqb p 65535) x.0 in
        (y.0, y.1, x.1)
      where
        not_not : (b : Bool) → not (not b) ≡ b
        not_not true = refl
        not_not false = refl

    reached : Reached
    reached = record {
      last = λ p e. eqb-true (end_of ends p) len (not-false (eqb (end_of ends p) len) (and_false _ _ (eq-eqb (p + 1) (length ends) e) (good p (omega arith)).2));
      none = λ e. eqb-true len 0 (not-false (eqb len 0) (and_false _ _ (eq-eqb (length ends) 0 e) tests.1));
    }

    rises : (p : ℕ) → p < length ends → begin_of ends p ≤ end_of ends p
    rises p l = ltb-false (end_of ends p) (begin_of ends p) (good p l).0

    -- k parts before the last
    inside : (k p : ℕ) → p + k + 1 ≡ length ends → end_of ends p ≤ len
    inside zero p e = omega (arith, reached.last p (omega arith))
    inside (suc k) p e = omega (arith, rises (suc p) (omega arith), inside k (suc p) (omega arith))

    pub ends_fine : Ended ends len × Reached
    ends_fine = (
      record {
        up = rises;
        within = λ p l. inside (length ends - p - 1) p (omega arith);
        few = ⊎_elim (λ l. l) (λ l. absurd (eqb-false 65535 65535 (good 65535 l).1 refl)) (le_or_lt (length ends) 65535);
      },
      reached,
    )

  module _ (w : Ended ends len) (r : Reached) where
    sound_all : (p : ℕ) → p < length ends → bad_end ends len p ≡ false
    sound_all p l =
        ap (λ (t : Bool). (t || eqb p 65535) || (eqb (p + 1) (length ends) && not (eqb (end_of ends p) len))) (le-ltb (end_of ends p) (begin_of ends p) (w.up p l))
        ∙ ap (λ (t : Bool). t || (eqb (p + 1) (length ends) && not (eqb (end_of ends p) len))) (ne_eqb p 65535 (λ e. omega (arith, w.few)))
        ∙ dec_eq (p + 1) (length ends)
        (λ e. ap (λ (t : Bool). t && not (eqb (end_of ends p) len)) (eq-eqb (p + 1) (length ends) e) ∙ ap not (eq-eqb (end_of ends p) len (r.last p e)))
        (λ z. ap (λ (t : Bool). t && not (eqb (end_of ends p) len)) (ne_eqb (p + 1) (length ends) z))

    all_passed : length ends ≤ first_bad_end ends len
    all_passed =
        omega (
          arith,
          ones_length (length ends) (λ p. p),
          every_passes sound numbers (every_all sound 0 numbers (λ k l.
              let g : k < length ends = omega (arith, ones_length (length ends) (λ p. p)) in
              ap sound (ones_at (length ends) (λ p. p) k g) ∙ ap not (sound_all k g))),
        )

    none_stray : stray ≡ false
    none_stray =
        dec_eq (length ends) 0
        (λ e. ap (λ (t : Bool). t && not (eqb len 0)) (eq-eqb (length ends) 0 e) ∙ ap not (eq-eqb len 0 (r.none e)))
        (λ z. ap (λ (t : Bool). t && not (eqb len 0)) (ne_eqb (length ends) 0 z))

    pub fine_ends : ends_fault ends len ≡ Ok tt
    fine_ends =
        sym (fault_not (ltb (first_bad_end ends len) (length ends) || stray) BadRange (first_bad_end ends len) (Ok tt)
        (ap (λ (t : Bool). t || stray) (le-ltb (first_bad_end ends len) (length ends) all_passed) ∙ none_stray))

-- ---- what no fault of the call says

pub class_fine : (entries ends : List ℕ) (count len : ℕ) → class_fault entries ends count len ≡ Ok tt → NamedBelow entries count × (count ≤ len) × Ended ends (length entries)
class_fine entries ends count len h =
    let a = both_fine (count_fault count) (entry_fault count entries and_then room_fault len count and_then ends_fault ends (length entries)) h in
    let b = both_fine (entry_fault count entries) (room_fault len count and_then ends_fault ends (length entries)) a.1 in
    let c = both_fine (room_fault len count) (ends_fault ends (length entries)) b.1 in (
      record { names = λ e l. ltb-true (get_or entries e 0) count ((first_fine MissingName (λ n. n) (names count) 0 entries).0 b.0 e l) },
      room_fine len count c.0,
      (ends_fine ends (length entries) c.1).0,
    )
