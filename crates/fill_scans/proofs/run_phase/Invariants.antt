-- `fill_scans::run_phase` meets its contract: the scans that are left, from here, make the whole phase (`Going`), and the table covers all that may act. Assumes nothing.
use Rattle.grid.specs.Counts.{count}
use Rattle.fill_walks.proofs.Runs.{ahead, Going}
use Rattle.fill_groups.specs.Groups.{Covers}
use Rattle.fill_scans.proofs.run_phase.Given as goal

abbrev pub invariant-loop-p : goal.invariant-loop-p
invariant-loop-p l = Going l.p l.r l.initial.l l.l l.scans × Covers l.p l.r l.l l.table

abbrev pub decreases-loop-p : goal.decreases-loop-p
decreases-loop-p l = count (ahead l.p) l.l
