-- `edits::meets_air` meets its contract: the border, then way by way. Assumes nothing.
use mathlib.Core.Path.{refl}
use Rattle.edits_reach.proofs.Tests.{true_false}
use Rattle.edits.proofs.Openings.{air_found, air_all}
use Rattle.edits.proofs.meets_air.Goals as goal

pub returns-then-air : goal.returns-then-air
returns-then-air c = ((λ _. air_found _ _ _ _ _ c.look-a.ensures c.requires.in_grid.0 c.if-air.true), λ z. absurd (true_false refl z))

pub returns : goal.returns
returns c = ((λ z. absurd (true_false z refl)), λ _. air_all _ c.args.l.now _ _ c.loop-d-test.false c.loop-d.invariant)
