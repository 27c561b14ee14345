-- `list::write_slab` meets its contract: row after row (`Parts`). Assumes nothing.
use Rattle.order.specs.Order.{rows}
use Rattle.list.proofs.Rows.{Parts}
use Rattle.list.proofs.write_slab.Given as goal

abbrev pub invariant-loop-j : goal.invariant-loop-j
invariant-loop-j l = Parts l.r l.labels l.initial.records l.records l.p l.q (rows l.r.r2 l.i 0 l.j)
