-- `marking::mark_triangles` meets its contract: after t turns the cells that some of the first t triangles hit are painted. Assumes nothing.
use Rattle.grid.specs.declared.Cell.{Cell}
use Rattle.grid.specs.First.{some_below}
use Rattle.marking.specs.Marked.{hits}
use Rattle.marking.specs.Painted.{Painted}
use Rattle.marking.proofs.mark_triangles.Given as goal

abbrev pub invariant-loop-t : goal.invariant-loop-t
invariant-loop-t l = Painted l.r (λ (c : Cell). some_below l.t (λ u. hits l.ps l.ts l.r l.placement u c)) l.initial.labels l.labels
