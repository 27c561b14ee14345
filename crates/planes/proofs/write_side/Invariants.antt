-- `planes::write_side` meets its contract: after v turns those of the first v points that go to the side are written. Assumes nothing.
use Rattle.planes.proofs.Sums.{Parted}
use Rattle.planes.proofs.write_side.Given as goal

abbrev pub invariant-loop-v : goal.invariant-loop-v
invariant-loop-v l = Parted l.side l.ps l.axis l.d l.initial.out l.out l.n l.v
