-- `sizing_points::all_in_bounds` meets its contract. The loop's invariant is `Passing`: the numbers before i have been asked. Assumes nothing.
use lib.Ieee.{nan}
use Rattle.grid.proofs.First.{passing_on, passing_done}
use Rattle.sizing_points.proofs.all_in_bounds.Goals as goal

pub loop-x-preserved : goal.loop-x-preserved
loop-x-preserved c =
    passing_on _ nan _ c.loop-x.x-index c.loop-x-test.true _ _ c.loop-x.invariant c.in_bounds-all.ensures

pub returns : goal.returns
returns c = passing_done _ nan _ _ _ c.loop-x-test.false c.loop-x.invariant
