-- `grid::all_taken` meets its contract. The loop's invariant is `Passing`: the labels before i have been asked. Assumes nothing.
use Rattle.grid.specs.Checks.{takes}
use Rattle.grid.proofs.First.{Passing}
use Rattle.grid.proofs.all_taken.Given as goal

abbrev pub invariant-loop-label : goal.invariant-loop-label
invariant-loop-label l = Passing (takes l.set) l.labels l.all l.label-index
