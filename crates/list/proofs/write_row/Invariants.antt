-- `list::write_row` meets its contract: cell after cell (`Parts`). Assumes nothing.
use Rattle.order.specs.Order.{row}
use Rattle.list.proofs.Rows.{Parts}
use Rattle.list.proofs.write_row.Given as goal

abbrev pub invariant-loop-k : goal.invariant-loop-k
invariant-loop-k l = Parts l.r l.labels l.initial.records l.records l.p l.q (row l.i l.j 0 l.k)
