-- `grid::first_not_taken` meets its contract. The loop's invariant is `Looking`: the place is still to be found, from i on. Assumes nothing.
use Rattle.grid.specs.Checks.{takes}
use Rattle.grid.proofs.First.{Looking}
use Rattle.grid.proofs.first_not_taken.Given as goal

abbrev pub invariant-loop-n : goal.invariant-loop-n
invariant-loop-n l = Looking (takes l.set) l.labels l.n
