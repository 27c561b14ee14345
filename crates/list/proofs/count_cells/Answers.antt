-- `list::count_cells` meets its contract: a loop that counts (`Counted`). Assumes nothing.
use mathlib.Core.Bool.{Bool, cond}
use mathlib.Core.Path.{ap, ◌∙◌}
use native.Mathlib.Omega.{arith}
use Rattle.grid.proofs.Counts.{one_if, counted_more, counted_all}
use Rattle.list.proofs.Rows.{listed_count, listed_few}
use Rattle.list.proofs.count_cells.Goals as goal

pub loop-label-preserved : goal.loop-label-preserved
loop-label-preserved c =
    counted_more _ _ _ _ _ c.loop-label.invariant c.loop-label-test.true (c.from-n.ensures ∙ one_if _ ∙ ap (λ (b : Bool). cond b 1 0) c.is_listed.ensures)

pub returns : goal.returns
returns c =
    let a = c.args in let e = counted_all _ _ _ _ c.loop-label.invariant c.loop-label-test.false in
    (omega (arith, e, listed_count a.r a.labels.now c.requires), omega (arith, e, listed_count a.r a.labels.now c.requires, listed_few a.r a.labels.now c.requires))
