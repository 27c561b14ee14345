-- `marking_cuts::rest_along_i` meets its contract: cut after cut. Assumes nothing.
use mathlib.Core.Bool.{◌&&◌}
use lib.IntN.{pos}
use Rattle.touch.specs.Bands.{kept}
use Rattle.touch.proofs.Laws.{signed}
use Rattle.marking_cuts.proofs.Laws.{cut_same, cut_then}
use Rattle.marking_cuts.proofs.rest_along_i.Goals as goal

pub returns : goal.returns
returns c =
    let a = c.args in
    let p = c.requires in
    let j = signed p.2 in
    let k = signed p.3 in
    let two = cut_then a.e _ _ _ _ c.band_along_i-normal.ensures c.band_along_i-edge01.ensures in
    let three = cut_then a.e _ _ _ _ two c.band_along_i-edge12.ensures in
    cut_same a.e _ _ _ (cut_then a.e _ _ _ _ three c.band_along_i.ensures)
    (λ x t. kept a.s.normal (pos x) (j t) (k t) && kept a.s.edge01.z (pos x) (j t) (pos 0) && kept a.s.edge12.z (pos x) (j t) (pos 0) && kept a.s.edge20.z (pos x) (j t) (pos 0))
