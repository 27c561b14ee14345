-- `list::write_slab` meets its contract: row after row (`Parts`). Assumes nothing.
use mathlib.Core.Path.{sym, subst}
use Rattle.order.specs.Order.{row, rows}
use Rattle.list.proofs.Rows.{Parts, parts_none, parts_room, parts_then, rows_none, rows_next, rows_part}
use Rattle.list.proofs.write_slab.Goals as goal

pub loop-j-init : goal.loop-j-init
loop-j-init c = let a = c.args in subst (Parts a.r a.labels.now a.records.now a.records.now a.p a.p) (sym (rows_none a.r.r2 a.i)) (parts_none a.r a.labels.now a.records.now a.p)

pub write_row-q-requires : goal.write_row-q-requires
write_row-q-requires c = let a = c.args in let j = c.loop-j.j in let l = c.loop-j-test.true in record { sheet = (c.requires.sheet.0, c.requires.sheet.1, l); room_from = parts_room a.r a.labels.now a.records.now a.p _ _ (rows a.r.r2 a.i 0 j) (row a.i j 0 a.r.r2) _ _ _ c.loop-j.invariant (rows_next a.r.r2 a.i j) (rows_part a.r.r2 a.i j a.r.r1 l) c.requires.room_from }

pub loop-j-preserved : goal.loop-j-preserved
loop-j-preserved c =
    let a = c.args in let j = c.loop-j.j in
    parts_then a.r a.labels.now a.records.now a.p _ _ _ _ (rows a.r.r2 a.i 0 j) (row a.i j 0 a.r.r2) _ c.loop-j.invariant (rows_next a.r.r2 a.i j) c.write_row-q.ensures.value c.write_row-q.ensures.written
