-- `list_hits::enter_all` meets its contract: triangle after triangle (`Going`). Assumes nothing.
use Rattle.list_rows.proofs.Entering.{entered_size}
use Rattle.list_hits.proofs.Sweeping.{going_first, going_on, going_table, triangle_room}
use Rattle.list_hits.proofs.enter_all.Goals as goal

pub loop-t-init : goal.loop-t-init
loop-t-init c = let a = c.args in going_first a.round.placing a.round.cells a.ps.now a.ts.now a.laid.axes a.laid.placement a.records.now a.list.now _ c.requires.table.0 c.requires.room

pub enter_triangle-requires : goal.enter_triangle-requires
enter_triangle-requires c = let a = c.args in let w = c.loop-t.invariant in let l = c.loop-t-test.true in record { table = (going_table a.round.placing a.round.cells a.ps.now a.ts.now a.laid.axes a.laid.placement a.records.now a.list.now _ c.requires.table.0 c.requires.room _ _ _ w, c.requires.table.1, c.requires.table.2); ready = (c.requires.ready, l); room = triangle_room a.round.placing a.round.cells a.ps.now a.ts.now a.laid.axes a.laid.placement a.records.now a.list.now _ c.requires.table.0 c.requires.room _ _ _ w l _ (entered_size _ _ _ _ _ _ _ w.entries) }

pub loop-t-preserved : goal.loop-t-preserved
loop-t-preserved c = let a = c.args in going_on a.round.placing a.round.cells a.ps.now a.ts.now a.laid.axes a.laid.placement a.records.now a.list.now _ c.requires.table.0 c.requires.room _ _ _ c.loop-t.invariant c.loop-t-test.true _ _ c.enter_triangle.ensures
