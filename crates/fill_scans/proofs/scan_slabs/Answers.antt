-- `fill_scans::scan_slabs` meets its contract: a slab in each turn (`Turns`). Assumes nothing.
use mathlib.Core.Path.{◌∙◌}
use native.Mathlib.Omega.{arith}
use Rattle.fill_walks.proofs.Turns.{turns_more, turns_all}
use Rattle.fill_scans.proofs.scan_slabs.Goals as goal

pub loop-i-preserved : goal.loop-i-preserved
loop-i-preserved c =
    let i = c.loop-i.invariant in
    (turns_more _ _ _ _ _ _ _ _ _ _ _ _ i.0 c.loop-i-test.true c.scan_slab-walked.auto.l c.scan_slab-walked.ensures.upper_bound.0 c.scan_slab-walked.ensures.result_after, c.scan_slab-walked.ensures.upper_bound.1, c.scan_slab-walked.auto.table ∙ i.2)

pub returns : goal.returns
returns c = let i = c.loop-i.invariant in record { result_after = turns_all _ _ _ _ _ _ _ _ _ _ i.0 c.loop-i-test.false; from_bound = (omega (arith, i.0.few, i.0.at_most), i.1) }
