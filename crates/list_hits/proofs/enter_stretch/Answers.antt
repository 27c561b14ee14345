-- `list_hits::enter_stretch` meets its contract: the records with the part's keys. Assumes nothing.
use Rattle.list_hits.proofs.Sweeping.{keys_room, keys_done, keys_none}
use Rattle.list_hits.proofs.enter_stretch.Goals as goal

pub enter_row-requires : goal.enter_row-requires
enter_row-requires c = let a = c.args in let q = c.requires.i_bound in record { table = c.requires.table; behind = (c.find-x.ensures.0, c.find-x.ensures.1); room = keys_room a.entrant.round.placing a.entrant.round.cells a.entrant.triangle a.line.i a.line.j a.line.k a.records.now c.requires.table q.0 q.1 c.if-from-to.true q.2 _ _ c.key_of-low.ensures c.key_of-high.ensures _ c.requires.room }

pub returns-then-from-to : goal.returns-then-from-to
returns-then-from-to c =
    let a = c.args in let q = c.requires.i_bound in
    keys_done a.entrant.round.placing a.entrant.round.cells a.entrant.triangle a.line.i a.line.j a.line.k a.records.now c.requires.table q.0 q.1 c.if-from-to.true q.2 _ _ c.key_of-low.ensures c.key_of-high.ensures _ _ _ c.enter_row.ensures

pub returns-else-from-to : goal.returns-else-from-to
returns-else-from-to c = let a = c.args in keys_none a.entrant.round.placing a.entrant.round.cells a.entrant.triangle a.line.i a.line.j a.line.k _ _ c.if-from-to.false
