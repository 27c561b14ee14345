-- `marking_cuts::band_along_j` meets its contract: a row along i of the turned band (`turn_j`). Assumes nothing.
use mathlib.Core.Path.{◌∙◌}
use Rattle.touch.specs.Bands.{BandFits}
use Rattle.ints.specs.Bound.{arg, v_in}
use Rattle.marking_cuts.proofs.Laws.{turned_j, turn_j, band_in, row_read, cut_same}
use Rattle.marking_cuts.proofs.band_along_j.Goals as goal
use Rattle.marking_cuts.proofs.band_along_j.Goals.{Start}

turned : (c : Start) → BandFits (turned_j c.args.s)
turned c = let p = c.requires in record { x_in = p.1.y_in; y_in = p.1.x_in; z_in = p.1.z_in; low_in = p.1.low_in; high_in = p.1.high_in }

pub band_along_i-requires : goal.band_along_i-requires
band_along_i-requires c = let p = c.requires in (p.0, band_in _ (turned (goal.at.band_along_i-requires c).Start), v_in (arg tt p.2), v_in (arg tt p.3))

pub returns : goal.returns
returns c =
    let a = c.args in
    let p = c.requires in
    cut_same a.e _ _ _ c.band_along_i.ensures (λ x. row_read (turned_j a.s) a.i a.k x (turned (goal.at.returns c).Start) p.2 p.3 ∙ turn_j a.s a.i a.k x)
