-- `planes::count_side` meets its contract: after v turns those of the first v points that go to the side are counted. Assumes nothing.
use Rattle.planes.proofs.Sums.{Counted}
use Rattle.planes.proofs.count_side.Given as goal

abbrev pub invariant-loop-v : goal.invariant-loop-v
invariant-loop-v l = Counted l.side l.ps l.axis l.d l.n l.v
