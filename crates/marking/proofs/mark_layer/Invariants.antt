-- `marking::mark_layer` meets its contract: a loop along j (`Along`), a row in each turn, over what the layer's cuts leave. Assumes nothing.
use Rattle.marking.specs.Painted.{left_in, one}
use Rattle.marking.proofs.Paint.{Along}
use Rattle.marking.proofs.mark_layer.Given as goal

abbrev pub invariant-loop-j : goal.invariant-loop-j
invariant-loop-j l = Along l.r (record { from = l.initial.j; to = l.j-end }) l.j (left_in (record { i = l.e; j = record { from = l.initial.j; to = l.j }; k = one l.k }) l.s) l.initial.labels l.labels
