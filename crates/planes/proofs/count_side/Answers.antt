-- `planes::count_side` meets its contract: after v turns those of the first v points that go to the side are counted. Assumes nothing.
use mathlib.Core.Path.{sym, ◌∙◌}
use Rattle.grid.proofs.Counts.{one_if}
use Rattle.planes.proofs.Sums.{counted_none, counted_on}
use Rattle.planes.proofs.count_side.Goals as goal

pub loop-v-init : goal.loop-v-init
loop-v-init c = let a = c.args in counted_none a.side a.ps.now a.axis a.d

pub loop-v-preserved : goal.loop-v-preserved
loop-v-preserved c =
    let a = c.args in
    let l = c.loop-v in
    counted_on a.side a.ps.now a.axis a.d l.v c.loop-v-test.true c.goes_to.result (sym c.goes_to.ensures) l.n c.from-n.result (c.from-n.ensures ∙ one_if _) l.invariant
