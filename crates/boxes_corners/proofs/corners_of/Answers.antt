-- `boxes_corners::corners_of` meets its contract: the code's table is the definition's. Assumes nothing.
use mathlib.Core.Path.{refl}
use Rattle.boxes_corners.specs.Corners.{faces}
use Rattle.boxes_corners.proofs.corners_of.Goals as goal

pub returns : goal.returns
unfolding faces
returns c = refl
