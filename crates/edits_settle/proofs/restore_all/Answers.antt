-- `edits_settle::restore_all` meets its contract: one pass, or way by way. Assumes nothing.
use mathlib.Core.Path.{refl}
use Rattle.edits_settle.proofs.Restorings.{restores_more, restores_swept}
use Rattle.edits_settle.proofs.restore_all.Goals as goal

pub returns-then-len-marked : goal.returns-then-len-marked
returns-then-len-marked c = restores_swept _ _ _ c.requires.sheet.size _ _ refl c.replace.ensures

pub loop-d-preserved : goal.loop-d-preserved
loop-d-preserved c = restores_more _ _ _ c.requires.in_grid.0 _ c.loop-d-test.true _ _ c.loop-d.invariant c.restore.ensures
