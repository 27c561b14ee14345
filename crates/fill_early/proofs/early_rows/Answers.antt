-- `fill_early::early_rows` meets its contract (`Rows`). Assumes nothing.
use native.Mathlib.Omega.{arith}
use Rattle.fill_early.proofs.EarlyLoop.{rows_more}
use Rattle.fill_early.proofs.early_rows.Goals as goal

pub loop-k-preserved : goal.loop-k-preserved
loop-k-preserved c =
    rows_more c.args.p c.requires.sheet.1 _ _ _ _ _ _ _ _ c.loop-k.invariant c.loop-k-test.true (omega (arith, c.requires.from_le_to.1, c.requires.sheet.0.sound.axis0.most)) c.early_row-a.ensures.early_same c.early_row-a.ensures.from_bound.0 c.early_row-a.ensures.from_bound.1
