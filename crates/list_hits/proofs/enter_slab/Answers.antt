-- `list_hits::enter_slab` meets its contract: row after row (`Slabbing`), over what the slab's cuts leave. Assumes nothing.
use native.Mathlib.Nat.{le_trans}
use native.Mathlib.Omega.{arith}
use Rattle.list_rows.proofs.Entering.{entered_size}
use Rattle.list_hits.proofs.Sweeping.{slabbing_first, slabbing_done, slabbing_on, slab_table, row_room, line_rest, slice_room, slice_done}
use Rattle.list_hits.proofs.enter_slab.Goals as goal

pub loop-j-init : goal.loop-j-init
loop-j-init c =
    let a = c.args in slabbing_first a.entrant.round.placing a.entrant.round.cells a.entrant.triangle a.i a.sweep.bands c.slab_along_j-f.result c.slab_along_k-k.result a.records.now a.list.now _ c.requires.table.0
    (slice_room a.sweep.bands c.requires.table.1 a.sweep.block a.i c.slab_along_j-f.result c.slab_along_k-k.result c.slab_along_j-f.ensures c.slab_along_k-k.ensures a.entrant.round.placing a.entrant.round.cells a.entrant.triangle a.records.now _ c.requires.room)

pub enter_line-requires : goal.enter_line-requires
enter_line-requires c = let a = c.args in let q = c.requires.i_bound in let w = c.loop-j.invariant in let l = c.loop-j-test.true in let r = slice_room a.sweep.bands c.requires.table.1 a.sweep.block a.i c.slab_along_j-f.result c.slab_along_k-k.result c.slab_along_j-f.ensures c.slab_along_k-k.ensures a.entrant.round.placing a.entrant.round.cells a.entrant.triangle a.records.now _ c.requires.room in record {
  table = (
    slab_table a.entrant.round.placing a.entrant.round.cells a.entrant.triangle a.i a.sweep.bands c.slab_along_j-f.result c.slab_along_k-k.result a.records.now a.list.now _ c.requires.table.0 r _ _ _ w,
    c.requires.table.1,
    line_rest a.sweep.bands c.requires.table.1 a.sweep.block a.i c.slab_along_j-f.result c.slab_along_k-k.result c.slab_along_j-f.ensures c.slab_along_k-k.ensures c.requires.table.2 c.loop-j.j w.walk.low l,
  );
  i_bound = (q.0, omega (arith, l, q.1, c.slab_along_j-f.ensures.within), le_trans c.slab_along_k-k.ensures.within q.2, q.3);
  room = row_room a.entrant.round.placing a.entrant.round.cells a.entrant.triangle a.i a.sweep.bands c.slab_along_j-f.result c.slab_along_k-k.result a.records.now a.list.now _ c.requires.table.0 r _ _ _ w l _ (entered_size _ _ _ _ _ _ _ w.entries);
}

pub loop-j-preserved : goal.loop-j-preserved
loop-j-preserved c =
    let a = c.args in slabbing_on a.entrant.round.placing a.entrant.round.cells a.entrant.triangle a.i a.sweep.bands c.slab_along_j-f.result c.slab_along_k-k.result a.records.now a.list.now _ c.requires.table.0
    (slice_room a.sweep.bands c.requires.table.1 a.sweep.block a.i c.slab_along_j-f.result c.slab_along_k-k.result c.slab_along_j-f.ensures c.slab_along_k-k.ensures a.entrant.round.placing a.entrant.round.cells a.entrant.triangle a.records.now _ c.requires.room)
    _ _ _ c.loop-j.invariant c.loop-j-test.true _ _ c.enter_line.ensures

pub returns : goal.returns
returns c =
    let a = c.args in slice_done a.sweep.bands c.requires.table.1 a.sweep.block a.i c.slab_along_j-f.result c.slab_along_k-k.result c.slab_along_j-f.ensures c.slab_along_k-k.ensures a.entrant.round.placing a.entrant.round.cells a.entrant.triangle a.records.now _ _ _
    (slabbing_done a.entrant.round.placing a.entrant.round.cells a.entrant.triangle a.i a.sweep.bands c.slab_along_j-f.result c.slab_along_k-k.result a.records.now a.list.now _ c.requires.table.0
    (slice_room a.sweep.bands c.requires.table.1 a.sweep.block a.i c.slab_along_j-f.result c.slab_along_k-k.result c.slab_along_j-f.ensures c.slab_along_k-k.ensures a.entrant.round.placing a.entrant.round.cells a.entrant.triangle a.records.now _ c.requires.room)
    _ _ _ c.loop-j.invariant c.loop-j-test.false)
