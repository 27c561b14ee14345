-- `touch_bands::edge_of` meets its contract. Assumes nothing.
use Rattle.ints.specs.Bound.{arg, minus, cons3}
use Rattle.touch.specs.Touch.{edge}
use Rattle.touch_bands.proofs.edge_of.Goals as goal

pub returns : goal.returns
unfolding edge
returns c = cons3 (minus tt (arg tt (c.requires.other_vertex_fits.at 0)) (arg tt (c.requires.vertex_fits.at 0))).is (minus tt (arg tt (c.requires.other_vertex_fits.at 1)) (arg tt (c.requires.vertex_fits.at 1))).is (minus tt (arg tt (c.requires.other_vertex_fits.at 2)) (arg tt (c.requires.vertex_fits.at 2))).is
