-- `list_pairs::lay_ranges` meets its contract: record after record (`Laying`). Assumes nothing.
use Rattle.list_pairs.proofs.Layings.{Laying}
use Rattle.list_pairs.proofs.lay_ranges.Given as goal

abbrev pub invariant-loop-p : goal.invariant-loop-p
invariant-loop-p l = Laying l.n l.initial.records l.records l.s l.p
