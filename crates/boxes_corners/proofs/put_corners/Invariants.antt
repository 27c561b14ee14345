-- `boxes_corners::put_corners` meets its contract: a corner in each turn, in the order of the table. Assumes nothing.
use lib.Ieee.{nan}
use Rattle.boxes_corners.specs.Corners.{corners, corner_of}
use Rattle.boxes_corners.proofs.Rows.{Through}
use Rattle.boxes_corners.proofs.put_corners.Given as goal

abbrev pub invariant-loop-v : goal.invariant-loop-v
invariant-loop-v l = Through (corner_of l.placement l.c) nan l.from corners l.initial.points l.points l.v
