-- `list::write_records` meets its contract: slab after slab (`Parts`). Assumes nothing.
use Rattle.order.specs.Order.{slabs}
use Rattle.list.proofs.Rows.{Parts}
use Rattle.list.proofs.write_records.Given as goal

abbrev pub invariant-loop-i : goal.invariant-loop-i
invariant-loop-i l = Parts l.r l.labels l.initial.records l.records 0 l.q (slabs l.r.r1 l.r.r2 0 l.i)
