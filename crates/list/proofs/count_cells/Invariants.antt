-- `list::count_cells` meets its contract: a loop that counts (`Counted`). Assumes nothing.
use Rattle.grid.proofs.Counts.{Counted}
use Rattle.list.specs.List.{is_listed}
use Rattle.list.proofs.count_cells.Given as goal

abbrev pub invariant-loop-label : goal.invariant-loop-label
invariant-loop-label l = Counted is_listed l.labels l.n l.label-index
