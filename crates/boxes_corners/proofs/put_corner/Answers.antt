-- `boxes_corners::put_corner` meets its contract: three numbers are stored. Assumes nothing.
use mathlib.Core.List.{[], ◌∷◌}
use mathlib.Core.Path.{◌≡◌, ap, ◌∙◌}
use lib.Ieee.{nan}
use lib.ListN.{get_or}
use Rattle.order.proofs.Lists.{written_three}
use Rattle.boxes_corners.specs.Corners.{corners, corner_of}
use Rattle.boxes_corners.proofs.Rows.{written_as}
use Rattle.boxes_corners.proofs.put_corner.Goals as goal

pub returns : goal.returns
unfolding corner_of
returns c =
    let a = c.args in
    let is : c.off_centre.result ∷ c.off_centre-2.result ∷ c.off_centre-3.result ∷ [] ≡ corner_of a.placement a.c (get_or corners a.v []) = (λ t. c.off_centre.ensures t ∷ c.off_centre-2.ensures t ∷ c.off_centre-3.ensures t ∷ []) ∙ ap (corner_of a.placement a.c) c.shift_of-shift.ensures in
    written_as nan a.from _ _ a.points.now _ is (written_three nan a.from _ _ _ a.points.now c.requires.from_in_bounds.0)
