-- `list_tally::count_row` meets its contract: a loop along i (`Tallied`), a cell in each turn, over the part that the bands leave. Assumes nothing.
use Rattle.marking_mesh.specs.Ranges.{holds}
use Rattle.marking.specs.Painted.{row_of}
use Rattle.list_tally.specs.Pairs.{surface_in}
use Rattle.list_tally.proofs.Sizes.{Tallied}
use Rattle.list_tally.proofs.count_row.Given as goal

abbrev pub invariant-loop-i : goal.invariant-loop-i
invariant-loop-i l = Tallied l.r (record { from = l.initial.i; to = l.i-end }) l.i (surface_in l.r l.labels (holds (row_of (record { from = l.initial.i; to = l.i }) l.j l.k))) l.n
