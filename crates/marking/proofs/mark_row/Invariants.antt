-- `marking::mark_row` meets its contract: a loop along i (`Along`), a cell painted in each turn, over the part that the bands leave. Assumes nothing.
use Rattle.marking_mesh.specs.Ranges.{holds}
use Rattle.marking.specs.Painted.{row_of}
use Rattle.marking.proofs.Paint.{Along}
use Rattle.marking.proofs.mark_row.Given as goal

abbrev pub invariant-loop-i : goal.invariant-loop-i
invariant-loop-i l = Along l.r (record { from = l.initial.i; to = l.i-end }) l.i (holds (row_of (record { from = l.initial.i; to = l.i }) l.j l.k)) l.initial.labels l.labels
