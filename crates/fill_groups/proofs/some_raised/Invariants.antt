-- `fill_groups::some_raised` meets its contract (`Lying`). Assumes nothing.
use Rattle.fill_groups.proofs.Cover.{Lying}
use Rattle.fill_groups.proofs.some_raised.Given as goal

abbrev pub invariant-loop-group : goal.invariant-loop-group
invariant-loop-group l = Lying l.block l.some l.group-index
