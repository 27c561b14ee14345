-- `sizing_points::all_in_bounds` meets its contract. The loop's invariant is `Passing`: the numbers before i have been asked. Assumes nothing.
use Rattle.grid.proofs.First.{Passing}
use Rattle.sizing_points.specs.Points.{bounded}
use Rattle.sizing_points.proofs.all_in_bounds.Given as goal

abbrev pub invariant-loop-x : goal.invariant-loop-x
invariant-loop-x l = Passing (bounded 20) l.ps l.all l.x-index
