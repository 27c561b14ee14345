-- `fill::phases_in_turn` meets its contract: the phases that are left, from here, make the whole (`Swinging`). Assumes nothing.
use Rattle.grid.specs.Counts.{count}
use Rattle.fill.proofs.Swings.{under3, Swinging}
use Rattle.fill.proofs.phases_in_turn.Given as goal

abbrev pub invariant-loop-r : goal.invariant-loop-r
invariant-loop-r l = Swinging l.r l.initial.labels l.labels l.scans l.inward

abbrev pub decreases-loop-r : goal.decreases-loop-r
decreases-loop-r l = count under3 l.labels
