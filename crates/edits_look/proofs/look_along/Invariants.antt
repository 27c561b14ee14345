-- `edits_look::look_along` meets its contract. Assumes nothing.
use Rattle.grid.specs.Ways.{room}
use Rattle.edits_reach.specs.Reach.{way_of}
use Rattle.edits_reach.proofs.Rays.{Onto}
use Rattle.edits_look.proofs.look_along.Given as goal

abbrev pub invariant-loop-r : goal.invariant-loop-r
invariant-loop-r l = Onto l.r l.l l.initial.here l.here l.m

abbrev pub decreases-loop-r : goal.decreases-loop-r
decreases-loop-r l = room l.r (way_of l.d) l.here
