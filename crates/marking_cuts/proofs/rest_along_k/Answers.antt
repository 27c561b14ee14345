-- `marking_cuts::rest_along_k` meets its contract: cut after cut. Assumes nothing.
use mathlib.Core.Bool.{◌&&◌}
use lib.IntN.{pos}
use Rattle.touch.specs.Bands.{kept}
use Rattle.touch.proofs.Laws.{signed}
use Rattle.marking_cuts.proofs.Laws.{cut_same, cut_then}
use Rattle.marking_cuts.proofs.rest_along_k.Goals as goal

pub returns : goal.returns
returns c =
    let a = c.args in
    let p = c.requires in
    let i = signed p.2 in
    let j = signed p.3 in
    let two = cut_then a.e _ _ _ _ c.band_along_k-normal.ensures c.band_along_k-edge01.ensures in
    let three = cut_then a.e _ _ _ _ two c.band_along_k-edge12.ensures in
    cut_same a.e _ _ _ (cut_then a.e _ _ _ _ three c.band_along_k.ensures)
    (λ x t. kept a.s.normal (i t) (j t) (pos x) && kept a.s.edge01.x (pos 0) (j t) (pos x) && kept a.s.edge12.x (pos 0) (j t) (pos x) && kept a.s.edge20.x (pos 0) (j t) (pos x))
