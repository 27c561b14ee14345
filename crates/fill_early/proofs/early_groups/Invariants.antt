-- `fill_early::early_groups` meets its contract (`Parts`). Assumes nothing.
use Rattle.fill_early.proofs.EarlyLoop.{Parts}
use Rattle.fill_early.proofs.early_groups.Given as goal

abbrev pub invariant-loop-j : goal.invariant-loop-j
invariant-loop-j l = Parts l.p l.r l.slabs.from l.slabs.to 4096 l.initial.l l.initial.table l.before l.l l.table l.walked l.j
