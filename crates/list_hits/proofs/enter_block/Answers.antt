-- `list_hits::enter_block` meets its contract: slab after slab (`Blocking`). Assumes nothing.
use native.Mathlib.Omega.{arith}
use Rattle.list_rows.proofs.Entering.{entered_size}
use Rattle.list_hits.proofs.Sweeping.{blocking_first, blocking_done, blocking_on, block_table, slab_room, slab_axes}
use Rattle.list_hits.proofs.enter_block.Goals as goal

pub loop-i-init : goal.loop-i-init
loop-i-init c = let a = c.args in blocking_first a.entrant.round.placing a.entrant.round.cells a.entrant.triangle a.sweep.bands a.sweep.block a.records.now a.list.now _ c.requires.table.0 c.requires.room

pub enter_slab-requires : goal.enter_slab-requires
enter_slab-requires c = let a = c.args in let q = c.requires.to_bound in let w = c.loop-i.invariant in let l = c.loop-i-test.true in record { table = (block_table a.entrant.round.placing a.entrant.round.cells a.entrant.triangle a.sweep.bands a.sweep.block a.records.now a.list.now _ c.requires.table.0 c.requires.room _ _ _ w, c.requires.table.1, slab_axes a.sweep.bands a.sweep.block c.loop-i.i c.requires.table.2 w.walk.low l); i_bound = (omega (arith, l, q.0), q.1, q.2, q.3); room = slab_room a.entrant.round.placing a.entrant.round.cells a.entrant.triangle a.sweep.bands a.sweep.block a.records.now a.list.now _ c.requires.table.0 c.requires.room _ _ _ w l _ (entered_size _ _ _ _ _ _ _ w.entries) }

pub loop-i-preserved : goal.loop-i-preserved
loop-i-preserved c =
    let a = c.args in blocking_on a.entrant.round.placing a.entrant.round.cells a.entrant.triangle a.sweep.bands a.sweep.block a.records.now a.list.now _ c.requires.table.0 c.requires.room _ _ _ c.loop-i.invariant c.loop-i-test.true _ _ c.enter_slab.ensures

pub returns : goal.returns
returns c = let a = c.args in blocking_done a.entrant.round.placing a.entrant.round.cells a.entrant.triangle a.sweep.bands a.sweep.block a.records.now a.list.now _ c.requires.table.0 c.requires.room _ _ _ c.loop-i.invariant c.loop-i-test.false
