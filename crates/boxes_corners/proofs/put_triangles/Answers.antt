-- `boxes_corners::put_triangles` meets its contract: a triangle in each turn, in the order of the table. Assumes nothing.
use native.Mathlib.Omega.{arith}
use mathlib.Core.List.{[]}
use Rattle.boxes_corners.specs.Corners.{faces, face_of}
use Rattle.boxes_corners.proofs.Rows.{through_none, through_more, through_all}
use Rattle.boxes_corners.proofs.Tables.{twelve_faces, face_length}
use Rattle.boxes_corners.proofs.put_triangles.Goals as goal

pub loop-t-init : goal.loop-t-init
loop-t-init c = let a = c.args in through_none (face_of a.base) 0 a.from faces a.triangles.now

pub loop-t-preserved : goal.loop-t-preserved
loop-t-preserved c =
    let a = c.args in
    through_more (face_of a.base) 3 (face_length a.base) 0 a.from [] faces a.triangles.now _ _ c.loop-t.t c.loop-t.invariant (omega (arith, c.loop-t-test.true, twelve_faces)) c.put_triangle.ensures

pub returns : goal.returns
returns c =
    let a = c.args in
    through_all (face_of a.base) 0 a.from faces a.triangles.now _ c.loop-t.t c.loop-t.invariant (omega (arith, c.loop-t-test.false, twelve_faces))
