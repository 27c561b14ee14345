-- `fill_scans::scan_slab` meets its contract: a row in each turn (`Turns`). Assumes nothing.
use mathlib.Core.Path.{◌∙◌}
use native.Mathlib.Omega.{arith}
use Rattle.fill_walks.proofs.Turns.{turns_more}
use Rattle.fill_scans.proofs.Rounds.{turns_whole}
use Rattle.fill_scans.proofs.scan_slab.Goals as goal

pub loop-j-preserved : goal.loop-j-preserved
loop-j-preserved c =
    let i = c.loop-j.invariant in
    (turns_more _ _ _ _ _ _ _ _ _ _ _ _ i.0 c.loop-j-test.true c.scan_row-walked.auto.l c.scan_row-walked.ensures.upper_bound.0 c.scan_row-walked.ensures.result_after, c.scan_row-walked.ensures.upper_bound.1, c.scan_row-walked.auto.table ∙ i.2)

pub returns : goal.returns
returns c = let i = c.loop-j.invariant in record { result_after = turns_whole _ _ _ _ _ _ _ _ _ i.0 c.loop-j-test.false; upper_bound = (omega (arith, i.0.few, i.0.at_most, i.0.sheet.sound.axis1.most), i.1) }
