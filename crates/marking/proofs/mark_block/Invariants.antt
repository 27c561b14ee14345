-- `marking::mark_block` meets its contract: a loop along k (`Along`), a layer in each turn. Assumes nothing.
use Rattle.marking.specs.Painted.{left_in}
use Rattle.marking.proofs.Paint.{Along, upto}
use Rattle.marking.proofs.mark_block.Given as goal

abbrev pub invariant-loop-k : goal.invariant-loop-k
invariant-loop-k l = Along l.r l.b.k l.k (left_in (record { i = l.b.i; j = l.b.j; k = upto l.b.k l.k }) l.s) l.initial.labels l.labels
