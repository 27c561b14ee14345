-- `fill_early::some_of` meets its contract (`Looked`). Assumes nothing.
use Rattle.fill_early.proofs.Sixteen.{Looked}
use Rattle.fill_early.proofs.some_of.Given as goal

abbrev pub invariant-loop-label : goal.invariant-loop-label
invariant-loop-label l = Looked l.sixteen l.a l.b l.some l.label-index
