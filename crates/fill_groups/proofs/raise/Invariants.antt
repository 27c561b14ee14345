-- `fill_groups::raise` meets its contract (`Raising`). Assumes nothing.
use Rattle.fill_groups.proofs.Cover.{Raising}
use Rattle.fill_groups.proofs.raise.Given as goal

abbrev pub invariant-loop-n : goal.invariant-loop-n
invariant-loop-n l = Raising l.from l.stride l.initial.table l.table l.n
