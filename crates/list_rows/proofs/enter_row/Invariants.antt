-- `list_rows::enter_row` meets its contract: record after record (`Rowing`). Assumes nothing.
use Rattle.list_lookup.specs.Lookup.{Table}
use Rattle.list_rows.proofs.Rowing.{Rowing}
use Rattle.list_rows.proofs.enter_row.Given as goal

abbrev pub invariant-loop-x : goal.invariant-loop-x
invariant-loop-x l = (w : Table l.initial.records l.entrant.round.cells) × Rowing l.entrant.round.cells l.entrant.triangle l.want l.past l.initial.records w l.entrant.round.placing l.initial.list l.records l.list l.x
