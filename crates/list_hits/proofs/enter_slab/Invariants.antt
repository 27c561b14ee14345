-- `list_hits::enter_slab` meets its contract: row after row (`Slabbing`), over what the slab's cuts leave. Assumes nothing.
use Rattle.list_hits.proofs.Sweeping.{Slabbing}
use Rattle.list_hits.proofs.enter_slab.Given as goal

abbrev pub invariant-loop-j : goal.invariant-loop-j
invariant-loop-j l = Slabbing l.entrant.round.placing l.entrant.round.cells l.entrant.triangle l.i l.bands (record { from = l.initial.j; to = l.j-end }) l.k l.initial.records l.initial.list l.records l.list l.j
