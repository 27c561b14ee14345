-- `fill_scans::scan_row` meets its contract: a group that is not raised changes nothing (`row_low`), and the others are visited (`row_high`). Assumes nothing.
use mathlib.Core.Path.{refl, ◌∙◌}
use native.Mathlib.Omega.{arith}
use Rattle.fill_scans.proofs.Rounds.{turns_whole, row_low, row_high}
use Rattle.fill_scans.proofs.scan_row.Goals as goal

pub loop-g-preserved-then-table-place-eq0 : goal.loop-g-preserved-then-table-place-eq0
loop-g-preserved-then-table-place-eq0 c =
    let i = c.loop-g.invariant in
    (row_low _ _ _ _ _ _ _ _ _ _ _ c.requires.i_lt_r0.0 c.requires.i_lt_r0.1 i.0 (omega arith) i.1 c.place.ensures.0 c.if-table-place-eq0.true, i.1, i.2)

pub loop-g-preserved : goal.loop-g-preserved
loop-g-preserved c =
    let i = c.loop-g.invariant in
    (row_high _ _ _ _ _ _ _ _ _ _ _ _ _ i.0 (omega arith) refl c.min-to.ensures c.visit_stretch-walked.auto.l c.visit_stretch-walked.ensures.k_bound.0 c.visit_stretch-walked.ensures.result_after, c.visit_stretch-walked.ensures.k_bound.1, c.visit_stretch-walked.auto.table ∙ i.2)

pub returns : goal.returns
returns c = let i = c.loop-g.invariant in record { result_after = turns_whole _ _ _ _ _ _ _ _ _ i.0 (omega (arith, c.loop-g-test.false)); upper_bound = (omega (arith, i.0.few, i.0.at_most, i.0.sheet.sound.axis2.most), i.1) }
