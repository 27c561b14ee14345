-- `boxes_corners::put_triangles` meets its contract: a triangle in each turn, in the order of the table. Assumes nothing.
use Rattle.boxes_corners.specs.Corners.{faces, face_of}
use Rattle.boxes_corners.proofs.Rows.{Through}
use Rattle.boxes_corners.proofs.put_triangles.Given as goal

abbrev pub invariant-loop-t : goal.invariant-loop-t
invariant-loop-t l = Through (face_of l.base) 0 l.from faces l.initial.triangles l.triangles l.t
