-- `grid::all_taken` meets its contract. The loop's invariant is `Passing`: the labels before i have been asked. Assumes nothing.
use Rattle.grid.proofs.First.{passing_on, passing_done}
use Rattle.grid.proofs.all_taken.Goals as goal

pub loop-label-preserved : goal.loop-label-preserved
loop-label-preserved c =
    passing_on _ 0 _ c.loop-label.label-index c.loop-label-test.true _ _ c.loop-label.invariant c.taken-all.ensures

pub returns : goal.returns
returns c = passing_done _ 0 _ _ _ c.loop-label-test.false c.loop-label.invariant
