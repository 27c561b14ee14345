-- `list_hits::enter_all` meets its contract: triangle after triangle (`Going`). Assumes nothing.
use Rattle.list_hits.proofs.Sweeping.{Going}
use Rattle.list_hits.proofs.enter_all.Given as goal

abbrev pub invariant-loop-t : goal.invariant-loop-t
invariant-loop-t l = Going l.round.placing l.round.cells l.ps l.ts l.laid.axes l.laid.placement l.initial.records l.initial.list l.records l.list l.t
