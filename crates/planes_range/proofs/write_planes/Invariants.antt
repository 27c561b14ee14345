-- `planes_range::write_planes` meets its contract: after n turns the first n planes are written. Assumes nothing.
use lib.Ieee.{nan}
use Rattle.order.specs.Output.{Written}
use Rattle.planes_range.specs.PlaneRange.{planes_of}
use Rattle.planes_range.proofs.write_planes.Given as goal

abbrev pub invariant-loop-n : goal.invariant-loop-n
invariant-loop-n l = Written nan 0 (planes_of l.origin l.scale l.first l.n) l.initial.ds l.ds
