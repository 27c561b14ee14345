-- `edits::close_open` meets its contract. Assumes nothing.
use Rattle.edits.proofs.Closings.{closed_plain, closed_steps}
use Rattle.edits.proofs.close_open.Goals as goal

pub returns-then-v-ne-OUTSIDE : goal.returns-then-v-ne-OUTSIDE
returns-then-v-ne-OUTSIDE c = closed_plain _ _ _ c.requires.sheet.0 c.requires.sheet.1 c.requires.in_grid.0 _ c.number-n.ensures c.if-v-ne-OUTSIDE.true c.requires.in_grid.1

pub returns : goal.returns
returns c = closed_steps _ _ _ c.requires.sheet.0 c.requires.sheet.1 c.requires.in_grid.0 _ c.number-n.ensures c.if-v-ne-OUTSIDE.false _ _ _ _ _ c.settle_all-seen.ensures c.settle_all-tried.ensures c.restore_all.ensures
