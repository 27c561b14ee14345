-- `touch::keeps_all` meets its contract. Assumes nothing.
use mathlib.Core.Bool.{◌&&◌}
use mathlib.Core.Path.{◌∙◌}
use Rattle.touch.specs.Bands.{kept_all, kept_at}
use Rattle.touch.proofs.Laws.{signed, cell_coordinates}
use Rattle.touch.proofs.keeps_all.Goals as goal

pub keeps_axes-axes-requires : goal.keeps_axes-axes-requires
keeps_axes-axes-requires c = record { three_fit = c.requires.bands_fit.axes_ok; axial = c.requires.bands_fit.axes_axial; coordinates_fit = cell_coordinates c.args.c c.requires.cell_fits }

pub returns : goal.returns
unfolding kept_all
returns c =
    let p = c.keeps_axes-axes.ensures in
    let q = c.keeps-normal.ensures in
    let u = c.keeps_products-edge01.ensures in
    let v = c.keeps_products-edge12.ensures in
    let w = c.keeps_products-edge20.ensures in
    let near = c.requires.cell_fits in
    let i = signed near.i_near in
    let j = signed near.j_near in
    let k = signed near.k_near in
    (λ t. p t && q t && u t && v t && w t) ∙ (λ t. kept_at c.args.s (i t) (j t) (k t))
