-- `edits_settle::settle_all` meets its contract: way by way. Assumes nothing.
use Rattle.edits_settle.proofs.Settlings.{settles_then}
use Rattle.edits_settle.proofs.settle_all.Goals as goal

pub loop-d-preserved : goal.loop-d-preserved
loop-d-preserved c = settles_then _ _ _ _ c.requires.in_grid.0 _ _ _ _ _ _ _ c.loop-d.invariant c.settle-s.ensures
