-- `fill::phases_in_turn` meets its contract: the phases that are left, from here, make the whole (`Swinging`). Assumes nothing.
use native.Mathlib.Omega.{arith}
use Rattle.grid.proofs.Counts.{count_most}
use Rattle.fill_walks.proofs.Runs.{run_some}
use Rattle.fill.proofs.Swings.{under3, swing_falls, swing_more, swing_done}
use Rattle.fill.proofs.phases_in_turn.Goals as goal

pub overflow_add-scans : goal.overflow_add-scans
overflow_add-scans c =
    omega (arith, c.loop-r.invariant.left, swing_falls _ _ _ _ _ _ _ c.loop-r.invariant c.phase_in_turn-n.ensures, count_most under3 c.args.labels.now, c.well_formed.0)

pub returns-then-n-eq1 : goal.returns-then-n-eq1
returns-then-n-eq1 c = swing_done _ _ _ _ _ _ _ c.loop-r.invariant c.phase_in_turn-n.ensures c.if-n-eq1.true

pub loop-r-smaller : goal.loop-r-smaller
loop-r-smaller c = omega (arith, swing_falls _ _ _ _ _ _ _ c.loop-r.invariant c.phase_in_turn-n.ensures, run_some _ _ c.phase_in_turn-n.ensures, c.if-n-eq1.false)

pub loop-r-preserved : goal.loop-r-preserved
loop-r-preserved c = swing_more _ _ _ _ _ _ _ c.loop-r.invariant c.phase_in_turn-n.ensures c.phase_in_turn-n.auto.labels c.if-n-eq1.false
