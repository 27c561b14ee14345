-- `marking_mesh::on_axis` meets its contract. Assumes nothing.
use mathlib.Core.Bool.{◌&&◌}
use native.Mathlib.Nat.{lt_of_le_of_lt}
use lib.Dec.{lit<}
use lib.IntN.{pos}
use lib.Signed.{lt_z, le_z}
use Rattle.ints.specs.Casts.{of_unsigned}
use Rattle.marking_mesh.specs.Mesh.{on_axis}
use Rattle.marking_mesh.proofs.Laws.{cell_read}
use Rattle.marking_mesh.proofs.on_axis.Goals as goal

pub returns : goal.returns
unfolding on_axis
returns c =
    let is = cell_read c.args.q c.ranges.q c.cell_of-c.ensures in
    let n = of_unsigned (lt_of_le_of_lt c.requires.most (lit< tt)) in
    λ t. le_z (pos 0) (is t) && lt_z (is t) (n t)
