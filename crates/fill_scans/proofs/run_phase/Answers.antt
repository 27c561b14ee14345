-- `fill_scans::run_phase` meets its contract: the scans that are left, from here, make the whole phase (`Going`), and the table covers all that may act. Assumes nothing.
use native.Mathlib.Omega.{arith}
use Rattle.grid.proofs.Counts.{count_most}
use Rattle.fill_walks.proofs.Runs.{ahead, falls, going_none, going_more, going_done}
use Rattle.fill_groups.proofs.Cover.{covers_all}
use Rattle.fill_scans.proofs.run_phase.Goals as goal

pub loop-p-init : goal.loop-p-init
loop-p-init c = (going_none _ _ c.requires.clear.proper _ c.requires.sheet, covers_all _ _ _ c.requires.sheet.sound)

pub overflow_add-scans : goal.overflow_add-scans
overflow_add-scans c = omega (arith, c.loop-p.invariant.0.left, count_most (ahead c.args.p) c.args.l.now, c.well_formed.0)

pub returns-then-done : goal.returns-then-done
returns-then-done c = going_done _ _ c.requires.clear.proper _ _ _ _ _ c.loop-p.invariant.0 c.if-done.true c.scan-walked.ensures.result_after

pub loop-p-smaller : goal.loop-p-smaller
loop-p-smaller c = omega (arith, falls _ _ c.requires.clear.proper _ _ _ c.loop-p.invariant.0.sheet c.scan-walked.ensures.result_after, c.if-done.false)

pub loop-p-preserved : goal.loop-p-preserved
loop-p-preserved c = (going_more _ _ c.requires.clear.proper _ _ _ _ _ c.loop-p.invariant.0 c.scan-walked.auto.l c.if-done.false c.scan-walked.ensures.result_after, c.scan-walked.ensures.covers)
