-- `marking_cuts::first_place` meets its contract. Assumes nothing.
use mathlib.Core.Path.{◌∙◌}
use Prim.Native.Nat.{◌+◌, ◌/◌}
use lib.IntN.{nat_abs}
use mir.Facts.{to_z-of_z}
use Rattle.ints.specs.Bound.{arg}
use Rattle.marking_cuts.proofs.Laws.{told, above_0, less_one, rising_has, first_later}
use Rattle.marking_cuts.proofs.first_place.Goals as goal

pub returns : goal.returns
returns c =
    let a = c.args in
    let p = c.requires in
    let e = told (arg tt p.2).is (to_z-of_z c.ranges.least ∙ p.3) c.if-low-least.false in
    let l = above_0 a.step a.low p.0 a.from e in
    let v = less_one a.low l.0 l.1 p.2 in
    first_later a.step p.0 a.low a.from l.0 _ l.1 e (c.above.ensures ∙ (λ t. nat_abs (v.is t) / nat_abs ((rising_has p.0).is t) + 1))
