-- `marking_cuts::clip` meets its contract: along each axis its own direction. Assumes nothing.
use Rattle.marking_cuts.proofs.Laws.{clipped}
use Rattle.marking_cuts.proofs.clip.Goals as goal

pub returns : goal.returns
returns c =
    let a = c.args in
    clipped a.axes a.b _ c.requires.three_fit.1 c.band_along_i-i.ensures c.band_along_j-j.ensures c.band_along_k-k.ensures
