-- `grid::count_label` meets its contract: a loop that counts (`Counted`). Assumes nothing.
use lib.Dec.{eqb}
use Rattle.grid.proofs.Counts.{Counted}
use Rattle.grid.proofs.count_label.Given as goal

abbrev pub invariant-loop-other : goal.invariant-loop-other
invariant-loop-other l = Counted (λ x. eqb x l.label) l.labels l.n l.other-index
