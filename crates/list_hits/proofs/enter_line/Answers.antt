-- `list_hits::enter_line` meets its contract: the part that the bands leave. Assumes nothing.
use native.Mathlib.Nat.{le_trans}
use Rattle.list_hits.proofs.Sweeping.{line_room, line_done}
use Rattle.list_hits.proofs.enter_line.Goals as goal

pub enter_stretch-requires : goal.enter_stretch-requires
enter_stretch-requires c = let a = c.args in let q = c.requires.i_bound in record { table = c.requires.table.0; i_bound = (q.0, q.1, le_trans c.rest_along_k-k.ensures.within q.2, q.3); room = line_room a.entrant.round.placing a.entrant.round.cells a.entrant.triangle a.line.i a.line.j a.bands a.line.k _ c.requires.table.2 c.rest_along_k-k.ensures a.records.now _ c.requires.room }

pub returns : goal.returns
returns c =
    let a = c.args in
    line_done a.entrant.round.placing a.entrant.round.cells a.entrant.triangle a.line.i a.line.j a.bands a.line.k _ c.requires.table.2 c.rest_along_k-k.ensures a.records.now _ _ _ c.enter_stretch.ensures
