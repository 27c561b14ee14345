-- `marking_cuts::slab_along_j` meets its contract: cut after cut. Assumes nothing.
use mathlib.Core.Bool.{◌&&◌}
use lib.IntN.{pos}
use Rattle.touch.specs.Bands.{kept}
use Rattle.touch.proofs.Laws.{signed}
use Rattle.marking_cuts.proofs.Laws.{cut_same, cut_then}
use Rattle.marking_cuts.proofs.slab_along_j.Goals as goal

pub returns : goal.returns
returns c =
    let a = c.args in
    let i = signed c.requires.2 in
    let two = cut_then a.e _ _ _ _ c.band_along_j-edge01.ensures c.band_along_j-edge12.ensures in
    cut_same a.e _ _ _ (cut_then a.e _ _ _ _ two c.band_along_j.ensures) (λ x t. kept a.s.edge01.z (i t) (pos x) (pos 0) && kept a.s.edge12.z (i t) (pos x) (pos 0) && kept a.s.edge20.z (i t) (pos x) (pos 0))
