-- `marking_cuts::cut_rising` meets its contract. Assumes nothing.
use mathlib.Core.Bool.{◌||◌}
use mathlib.Core.Path.{ap, sym, ◌∙◌}
use Prim.Native.Nat.{ℕ, ◌*◌, ◌-◌, ◌<◌, ◌^◌}
use native.Mathlib.Nat.{lt_trans}
use native.Mathlib.Omega.{arith}
use lib.Dec.{lit<}
use lib.IntN.{ℤ, pos, ◌*ℤ◌}
use lib.Signed.{lt_z, le_z}
use mir.Syntax.{w64}
use mir.Val.{to_z, of_z}
use Rattle.ints.specs.Bound.{Val, arg, times, v_in}
use Rattle.ints.specs.Casts.{of_unsigned}
use Rattle.marking_cuts.proofs.Laws.{rising_in, rising_arg, first_is, past_is, lies_nowhere, cut_nothing, cut_between, reaches_0}
use Rattle.marking_cuts.proofs.cut_rising.Goals as goal
use Rattle.marking_cuts.proofs.cut_rising.Goals.{Start}

-- a place as a signed number
place : {n : ℕ} → n < 256 → Val 255 (to_z w64 n) (pos n)
place h = record { is = of_unsigned (lt_trans h (lit< tt)); bound = omega arith }

-- the line at the first place and at the last
at_first : (c : Start) → Val (2 ^ 49 * 255) (to_z w64 (of_z w64 (to_z w64 (of_z w64 c.args.step) *ℤ to_z w64 c.args.e.from))) (c.args.step *ℤ pos c.args.e.from)
at_first c = times tt (arg tt (rising_in c.requires.2)) (place (omega (arith, c.requires.0, c.requires.1)))

at_last : (c : Start) → Val (2 ^ 49 * 255) (to_z w64 (of_z w64 (to_z w64 (of_z w64 c.args.step) *ℤ to_z w64 (c.args.e.to - 1)))) (c.args.step *ℤ pos (c.args.e.to - 1))
at_last c = times tt (arg tt (rising_in c.requires.2)) (place (omega (arith, c.requires.0, c.requires.1)))

pub returns-then-most-low : goal.returns-then-most-low
returns-then-most-low c =
    let a = c.args in
    let p = c.requires in
    cut_nothing a.e _ (lies_nowhere a.step p.2 a.e a.low a.high p.0 (sym (λ t. lt_z ((at_last (goal.at.returns-then-most-low c).Start).is t) ((arg tt p.3).is t) || lt_z ((arg tt p.4).is t) ((at_first (goal.at.returns-then-most-low c).Start).is t)) ∙ c.if-most-low.true))

pub first_place-from-requires : goal.first_place-from-requires
first_place-from-requires c =
    let a = c.args in
    let p = c.requires in
    (rising_arg p.2, omega (arith, p.0, p.1), v_in (arg tt p.3), (at_first (goal.at.first_place-from-requires c).Start).is ∙ sym (ap (λ (z : ℤ). z *ℤ pos a.e.from) (arg tt (rising_in p.2)).is))

pub past_place-to-requires : goal.past_place-to-requires
past_place-to-requires c =
    let a = c.args in
    let p = c.requires in
    (rising_arg p.2, omega (arith, p.0), p.1, v_in (arg tt p.4), ap (le_z (pos 0)) (arg tt p.4).is ∙ reaches_0 a.step a.high p.2 a.e.from (lt_z (a.step *ℤ pos (a.e.to - 1)) a.low) (sym (λ t. lt_z ((at_last (goal.at.past_place-to-requires c).Start).is t) ((arg tt p.3).is t) || lt_z ((arg tt p.4).is t) ((at_first (goal.at.past_place-to-requires c).Start).is t)) ∙ c.if-most-low.false), (at_last (goal.at.past_place-to-requires c).Start).is ∙ sym (ap (λ (z : ℤ). z *ℤ pos (a.e.to - 1)) (arg tt (rising_in p.2)).is))

pub returns : goal.returns
returns c =
    let a = c.args in
    let p = c.requires in
    let step = (arg tt (rising_in p.2)).is in
    cut_between a.e a.step a.low a.high _ _ (first_is step (arg tt p.3).is c.first_place-from.ensures) (past_is step (arg tt p.4).is c.past_place-to.ensures)
