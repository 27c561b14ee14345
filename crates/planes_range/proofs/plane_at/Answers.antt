-- `planes_range::plane_at` meets its contract. Assumes nothing.
use mathlib.Core.Path.{ap}
use lib.Ieee.{neg, of_bits}
use Rattle.planes_range.specs.PlaneRange.{plane_at}
use Rattle.planes_range.proofs.plane_at.Goals as goal

pub returns : goal.returns
unfolding plane_at of_bits
returns c = ap neg c.off_centre.ensures
