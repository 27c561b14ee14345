-- `boxes::write_boxes` meets its contract: a walk in list order, the box of each cell that has the label (`Writing`). Assumes nothing.
use Prim.Native.Nat.{◌-◌}
use Rattle.order.specs.Order.{key}
use Rattle.boxes.proofs.Writes.{Writing}
use Rattle.boxes.proofs.write_boxes.Given as goal

abbrev pub invariant-loop-next : goal.invariant-loop-next
invariant-loop-next l = Writing l.labels l.r l.label l.placement l.initial.points l.initial.triangles l.points l.triangles l.n l.next

abbrev pub decreases-loop-next : goal.decreases-loop-next
decreases-loop-next l = 33554432 - key l.next
