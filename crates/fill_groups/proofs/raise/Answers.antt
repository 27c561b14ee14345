-- `fill_groups::raise` meets its contract (`Raising`). Assumes nothing.
use lib.ListN.{length}
use native.Mathlib.Omega.{arith}
use Rattle.fill_groups.proofs.Cover.{raising_within, raising_more}
use Rattle.fill_groups.proofs.raise.Goals as goal

pub loop-n-preserved : goal.loop-n-preserved
loop-n-preserved c =
    let a = c.args in
    raising_more _ _ _ _ _ (omega (arith, raising_within a.from a.stride a.table.now a.count (length a.table.now) c.loop-n.n c.loop-n-test.true c.requires.stride_in_bounds.0)) c.loop-n.invariant
