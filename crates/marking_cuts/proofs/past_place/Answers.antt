-- `marking_cuts::past_place` meets its contract. Assumes nothing.
use mathlib.Core.Path.{◌∙◌}
use Prim.Native.Nat.{◌+◌, ◌/◌, ◌^◌}
use lib.IntN.{pos, nat_abs}
use mir.Syntax.{w64}
use mir.Val.{to_z, of_z}
use mir.Facts.{to_z-of_z}
use Rattle.ints.specs.Bound.{Val, arg}
use Rattle.marking_cuts.proofs.Laws.{told, not_below_0, rising_has, past_before}
use Rattle.marking_cuts.proofs.past_place.Goals as goal

-- high as the machine has it
has : (c : goal.After-above) → Val (2 ^ 61) (to_z w64 (of_z w64 c.args.high)) (pos (nat_abs c.args.high))
has c = record { is = (arg tt c.requires.3).is ∙ not_below_0 c.args.high c.requires.4; bound = c.requires.3.bound }

pub returns : goal.returns
returns c =
    let a = c.args in
    let p = c.requires in
    let e = told (to_z-of_z c.ranges.most ∙ p.5) (arg tt p.3).is c.if-most-high.false in
    past_before a.step p.0 a.high a.to (nat_abs a.high) _ (not_below_0 a.high p.4) e (c.above.ensures ∙ (λ t. nat_abs ((has c).is t) / nat_abs ((rising_has p.0).is t) + 1))
