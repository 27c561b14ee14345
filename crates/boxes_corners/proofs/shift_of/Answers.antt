-- `boxes_corners::shift_of` meets its contract: the code's table is the definition's. Assumes nothing.
use mathlib.Core.Path.{refl}
use lib.Ieee.{of_bits, neg}
use Rattle.boxes_corners.specs.Corners.{corners}
use Rattle.boxes_corners.proofs.shift_of.Goals as goal

pub returns : goal.returns
unfolding corners of_bits neg
returns c = refl
