-- `fill_early::set_early` meets its contract (`Parts`). Assumes nothing.
use Prim.Native.Nat.{◌≤◌}
use Rattle.fill_early.proofs.EarlyLoop.{Parts}
use Rattle.fill_early.proofs.set_early.Given as goal

abbrev pub invariant-loop-g : goal.invariant-loop-g
invariant-loop-g l = Parts l.p l.r l.slabs.from l.slabs.to 1048576 l.initial.l l.initial.table l.before l.l l.table l.walked l.g × (l.g ≤ 16)
