-- `edits::open_surface` meets its contract: a trip, or one cell. Assumes nothing.
use Rattle.edits.proofs.Openings.{opened, opened_alone}
use Rattle.edits.proofs.open_surface.Goals as goal

pub returns-then-meets_air : goal.returns-then-meets_air
returns-then-meets_air c = opened _ _ _ c.requires.sheet c.requires.in_grid.0 c.requires.in_grid.1 _ _ (c.meets_air.ensures.0 c.if-meets_air.true) c.reach-w.ensures

pub returns : goal.returns
returns c = opened_alone _ _ _ c.requires.sheet c.requires.in_grid.0 c.requires.in_grid.1 _ c.number-n.ensures (c.meets_air.ensures.1 c.if-meets_air.false)
