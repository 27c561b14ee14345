-- `grid::replace` meets its contract: a pass that has come to n (`Within`). Assumes nothing.
use Rattle.grid.specs.Passes.{becomes, Within}
use Rattle.grid.proofs.replace.Given as goal

abbrev pub invariant-loop-n : goal.invariant-loop-n
invariant-loop-n l = Within l.from l.n (λ n. becomes l.low l.high l.new) l.initial.labels l.labels
