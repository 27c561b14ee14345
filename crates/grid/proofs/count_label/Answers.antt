-- `grid::count_label` meets its contract: a loop that counts (`Counted`). Assumes nothing.
use mathlib.Core.Path.{◌∙◌}
use Rattle.grid.proofs.Counts.{one_if, counted_more, counted_all}
use Rattle.grid.proofs.count_label.Goals as goal

pub loop-other-preserved : goal.loop-other-preserved
loop-other-preserved c = counted_more _ _ _ _ _ c.loop-other.invariant c.loop-other-test.true (c.from-n.ensures ∙ one_if _)

pub returns : goal.returns
returns c = counted_all _ _ _ _ c.loop-other.invariant c.loop-other-test.false
