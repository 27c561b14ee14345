-- `program_reader::read_on` meets its contract: the records one at a time. Assumes nothing.
use Prim.Native.Nat.{◌-◌}
use lib.ListN.{length}
use Rattle.program_reader.proofs.Readings.{SoFar}
use Rattle.program_reader.proofs.read_on.Given as goal

abbrev pub invariant-loop-record : goal.invariant-loop-record
invariant-loop-record l = SoFar l.input l.head l.ps l.ts l.at l.points l.triangles

abbrev pub decreases-loop-record : goal.decreases-loop-record
decreases-loop-record l = length l.input - l.at
