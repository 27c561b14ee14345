-- `sizing_points::in_bounds` meets its contract: two comparisons are the bound. Assumes nothing.
use Rattle.sizing_points.proofs.Laws.{within_bounds}
use Rattle.sizing_points.proofs.in_bounds.Goals as goal

pub returns : goal.returns
returns c = within_bounds c.args.x
