-- `fill_early::set_sixteen` meets its contract (`Settling`). Assumes nothing.
use mathlib.Core.Bool.{Bool, not, ◌&&◌}
use mathlib.Core.Path.{ap, ◌∙◌}
use native.Mathlib.Omega.{arith}
use lib.Dec.{eqb}
use lib.ListN.{get_or}
use Rattle.grid.proofs.Counts.{one_if}
use Rattle.fill_early.proofs.Sixteen.{settling_more, settling_all}
use Rattle.fill_early.proofs.set_sixteen.Goals as goal

pub loop-d-preserved : goal.loop-d-preserved
loop-d-preserved c = settling_more _ _ _ _ _ _ _ _ _ c.loop-d-test.true c.loop-d.invariant c.choose.ensures (c.from-set.ensures ∙ one_if _) (ap (λ (b : Bool). b && not (eqb (get_or c.args.told c.loop-d.d 0) 0)) c.either.ensures)

pub returns : goal.returns
returns c =
    let i = c.loop-d.invariant in record {
      acting_after = rw c.from.ensures (settling_all _ _ _ _ _ _ i c.loop-d-test.false);
      walked_bound = omega (arith, c.from.ensures, i.few, i.most);
    }
