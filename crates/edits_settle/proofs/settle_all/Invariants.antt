-- `edits_settle::settle_all` meets its contract: way by way. Assumes nothing.
use Rattle.edits_settle.specs.Closing.{Settles}
use Rattle.edits_settle.proofs.Settlings.{came}
use Rattle.edits_settle.proofs.settle_all.Given as goal

abbrev pub invariant-loop-d : goal.invariant-loop-d
invariant-loop-d l = Settles 0 l.d l.r l.c l.trips l.initial.l l.l (came l.sealed l.marked)
