-- `list_tally::count_pairs` meets its contract: triangle after triangle (`Paired`). Assumes nothing.
use Rattle.list_tally.proofs.Sizes.{Paired}
use Rattle.list_tally.proofs.count_pairs.Given as goal

abbrev pub invariant-loop-t : goal.invariant-loop-t
invariant-loop-t l = Paired l.ps l.ts l.r l.placement l.labels l.t l.n
