-- `edits::meets_air` meets its contract: the border, then way by way. Assumes nothing.
use Prim.Native.Nat.{◌-◌}
use Rattle.edits.proofs.Openings.{NoAir}
use Rattle.edits.proofs.meets_air.Given as goal

abbrev pub invariant-loop-d : goal.invariant-loop-d
invariant-loop-d l = NoAir l.r l.l l.c l.d

abbrev pub decreases-loop-d : goal.decreases-loop-d
decreases-loop-d l = 6 - l.d
