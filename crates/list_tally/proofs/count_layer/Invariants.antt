-- `list_tally::count_layer` meets its contract: a loop along j (`Tallied`), a row in each turn, over what the layer's cuts leave. Assumes nothing.
use Rattle.marking.specs.Painted.{left_in, one}
use Rattle.list_tally.specs.Pairs.{surface_in}
use Rattle.list_tally.proofs.Sizes.{Tallied}
use Rattle.list_tally.proofs.count_layer.Given as goal

abbrev pub invariant-loop-j : goal.invariant-loop-j
invariant-loop-j l = Tallied l.r (record { from = l.initial.j; to = l.j-end }) l.j (surface_in l.r l.labels (left_in (record { i = l.e; j = record { from = l.initial.j; to = l.j }; k = one l.k }) l.s)) l.n
