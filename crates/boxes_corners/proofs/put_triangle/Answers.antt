-- `boxes_corners::put_triangle` meets its contract: three numbers are stored, and each fits. Assumes nothing.
use native.Mathlib.Omega.{arith}
use mathlib.Core.List.{List}
use mathlib.Core.Path.{ap, sym, subst}
use Prim.Native.Nat.{ℕ, ◌<◌}
use lib.ListN.{get_or}
use Rattle.order.proofs.Lists.{written_three}
use Rattle.boxes_corners.specs.Corners.{face_of}
use Rattle.boxes_corners.proofs.Rows.{written_as}
use Rattle.boxes_corners.proofs.Tables.{face_corner}
use Rattle.boxes_corners.proofs.put_triangle.Goals as goal

-- each number names one of the eight corners
small : (c : goal.After-corners_of-corner) (x : ℕ) → get_or c.corners_of-corner.result x 0 < 8
small c x = subst (λ (row : List ℕ). get_or row x 0 < 8) (sym c.corners_of-corner.ensures) (face_corner c.args.t x)

pub overflow_add-triangles : goal.overflow_add-triangles
overflow_add-triangles c = omega (arith, small c 0)

pub overflow_add-triangles-2 : goal.overflow_add-triangles-2
overflow_add-triangles-2 c = omega (arith, small c 1)

pub overflow_add-triangles-4 : goal.overflow_add-triangles-4
overflow_add-triangles-4 c = omega (arith, small c 2)

pub returns : goal.returns
unfolding face_of
returns c =
    let a = c.args in
    written_as 0 a.from _ _ a.triangles.now _ (ap (face_of a.base) c.corners_of-corner.ensures) (written_three 0 a.from _ _ _ a.triangles.now c.requires.0)
