-- `fill_early::near` meets its contract (`Telling`). Assumes nothing.
use Rattle.fill_early.proofs.Sixteen.{Telling}
use Rattle.fill_early.proofs.near.Given as goal

abbrev pub invariant-loop-d : goal.invariant-loop-d
invariant-loop-d l = Telling l.l l.n l.up l.down l.a l.b l.initial.out l.out l.d
