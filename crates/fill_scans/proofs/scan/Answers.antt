-- `fill_scans::scan` meets its contract: block by block (`Scanning`). Assumes nothing.
use native.Mathlib.Omega.{arith}
use Rattle.fill_scans.proofs.Rounds.{scanning_more, scanning_all}
use Rattle.fill_scans.proofs.scan.Goals as goal

pub loop-b-preserved : goal.loop-b-preserved
loop-b-preserved c = scanning_more _ _ _ _ c.loop-b.invariant (omega (arith, c.loop-b.invariant.starts, c.loop-b-test.true, c.div_ceil-b-end.ensures, c.requires.0.sound.axis0.some)) c.min-to.ensures c.scan_block-walked.auto.l c.scan_block-walked.auto.table c.scan_block-walked.ensures.upper_bound.0 c.scan_block-walked.ensures.upper_bound.1 c.scan_block-walked.ensures.result_after

pub returns : goal.returns
returns c = record { result_after = scanning_all _ _ _ _ c.loop-b.invariant (omega (arith, c.loop-b.invariant.starts, c.loop-b-test.false, c.div_ceil-b-end.ensures, c.requires.0.sound.axis0.some)); covers = c.loop-b.invariant.covers }
