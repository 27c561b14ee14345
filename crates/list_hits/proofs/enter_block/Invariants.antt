-- `list_hits::enter_block` meets its contract: slab after slab (`Blocking`). Assumes nothing.
use Rattle.list_hits.proofs.Sweeping.{Blocking}
use Rattle.list_hits.proofs.enter_block.Given as goal

abbrev pub invariant-loop-i : goal.invariant-loop-i
invariant-loop-i l = Blocking l.entrant.round.placing l.entrant.round.cells l.entrant.triangle l.sweep.bands l.sweep.block l.initial.records l.initial.list l.records l.list l.i
