-- `fill_early::set_sixteen` meets its contract (`Settling`). Assumes nothing.
use Rattle.fill_early.proofs.Sixteen.{Settling}
use Rattle.fill_early.proofs.set_sixteen.Given as goal

abbrev pub invariant-loop-d : goal.invariant-loop-d
invariant-loop-d l = Settling l.todo l.done l.other l.told l.n l.initial.l l.l l.set l.acting l.d
