-- `list::write_records` meets its contract: slab after slab (`Parts`). Assumes nothing.
use mathlib.Core.Path.{sym, subst}
use native.Mathlib.Omega.{arith}
use Rattle.order.specs.Order.{rows, slabs}
use Rattle.list.proofs.Rows.{Parts, parts_none, parts_room, parts_then, slabs_none, slabs_next, slabs_part, listed_few}
use Rattle.list.proofs.write_records.Goals as goal

pub loop-i-init : goal.loop-i-init
loop-i-init c = let a = c.args in subst (Parts a.r a.labels.now a.records.now a.records.now 0 0) (sym (slabs_none a.r.r1 a.r.r2)) (parts_none a.r a.labels.now a.records.now 0)

pub write_slab-q-requires : goal.write_slab-q-requires
write_slab-q-requires c = let a = c.args in let i = c.loop-i.i in let l = c.loop-i-test.true in record {
  sheet = (c.requires.sheet, l);
  room_from = parts_room a.r a.labels.now a.records.now 0 _ _ (slabs a.r.r1 a.r.r2 0 i) (rows a.r.r2 i 0 a.r.r1) _ _ _ c.loop-i.invariant (slabs_next a.r.r1 a.r.r2 i) (slabs_part a.r.r1 a.r.r2 i a.r.r0 l)
      (record { room = omega (arith, c.requires.width_in_bounds); few = omega (arith, listed_few a.r a.labels.now c.requires.sheet) });
}

pub loop-i-preserved : goal.loop-i-preserved
loop-i-preserved c =
    let a = c.args in let i = c.loop-i.i in
    parts_then a.r a.labels.now a.records.now 0 _ _ _ _ (slabs a.r.r1 a.r.r2 0 i) (rows a.r.r2 i 0 a.r.r1) _ c.loop-i.invariant (slabs_next a.r.r1 a.r.r2 i) c.write_slab-q.ensures.value c.write_slab-q.ensures.written
