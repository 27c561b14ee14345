-- `list_tally::count_block` meets its contract: a loop along k (`Tallied`), a layer in each turn. Assumes nothing.
use Rattle.marking.specs.Painted.{left_in}
use Rattle.marking.proofs.Paint.{upto}
use Rattle.list_tally.specs.Pairs.{surface_in}
use Rattle.list_tally.proofs.Sizes.{Tallied}
use Rattle.list_tally.proofs.count_block.Given as goal

abbrev pub invariant-loop-k : goal.invariant-loop-k
invariant-loop-k l = Tallied l.r l.b.k l.k (surface_in l.r l.labels (left_in (record { i = l.b.i; j = l.b.j; k = upto l.b.k l.k }) l.s)) l.n
