-- `edits_settle::restore_all` meets its contract: one pass, or way by way. Assumes nothing.
use Rattle.edits_settle.specs.Closing.{Restores, is_below}
use Rattle.edits_settle.proofs.restore_all.Given as goal

abbrev pub invariant-loop-d : goal.invariant-loop-d
invariant-loop-d l = Restores (is_below l.d) l.r l.c l.initial.l l.l
