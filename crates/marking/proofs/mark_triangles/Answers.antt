-- `marking::mark_triangles` meets its contract: after t turns the cells that some of the first t triangles hit are painted. Assumes nothing.
use Rattle.grid.specs.declared.Cell.{Cell}
use Rattle.grid.proofs.First.{some_none, some_more}
use Rattle.marking.specs.Marked.{hits}
use Rattle.marking.proofs.Paint.{painted_none, painted_then}
use Rattle.marking.proofs.mark_triangles.Goals as goal

pub loop-t-init : goal.loop-t-init
loop-t-init c =
    let a = c.args in
    painted_none a.r _ a.labels.now (λ (d : Cell). some_none (λ u. hits a.ps.now a.ts.now a.r a.placement u d))

pub loop-t-preserved : goal.loop-t-preserved
loop-t-preserved c =
    let a = c.args in
    painted_then a.r _ _ _ _ _ _ c.loop-t.invariant c.mark_triangle.ensures (λ (d : Cell). some_more c.loop-t.t (λ u. hits a.ps.now a.ts.now a.r a.placement u d))
