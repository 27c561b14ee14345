-- `touch::keeps_axes` meets its contract: what is left out is 0. Assumes nothing.
use mathlib.Core.Bool.{◌&&◌}
use mathlib.Core.Path.{◌∙◌}
use lib.Signed.{le_z}
use Rattle.ints.specs.Bound.{arg, times, v_mul, fits}
use Rattle.touch.proofs.Laws.{axes_are}
use Rattle.touch.proofs.keeps_axes.Goals as goal

pub overflow_mul-px : goal.overflow_mul-px
overflow_mul-px c = fits tt (v_mul (arg tt c.requires.three_fit.x_ok.x_in) (arg tt c.requires.coordinates_fit.i_in))

pub overflow_mul-py : goal.overflow_mul-py
overflow_mul-py c = fits tt (v_mul (arg tt c.requires.three_fit.y_ok.y_in) (arg tt c.requires.coordinates_fit.j_in))

pub overflow_mul-pz : goal.overflow_mul-pz
overflow_mul-pz c = fits tt (v_mul (arg tt c.requires.three_fit.z_ok.z_in) (arg tt c.requires.coordinates_fit.k_in))

pub returns : goal.returns
returns c =
    let a = c.args in
    let g = c.requires.three_fit in
    let p = c.requires.coordinates_fit in
    let are = axes_are a.s c.requires.axial a.i a.j a.k in
    let x = (times tt (arg tt g.x_ok.x_in) (arg tt p.i_in)).is ∙ are.0 in
    let y = (times tt (arg tt g.y_ok.y_in) (arg tt p.j_in)).is ∙ are.1 in
    let z = (times tt (arg tt g.z_ok.z_in) (arg tt p.k_in)).is ∙ are.2 in
    let lx = (arg tt g.x_ok.low_in).is in
    let hx = (arg tt g.x_ok.high_in).is in
    let ly = (arg tt g.y_ok.low_in).is in
    let hy = (arg tt g.y_ok.high_in).is in
    let lz = (arg tt g.z_ok.low_in).is in
    let hz = (arg tt g.z_ok.high_in).is in
    λ t. le_z (lx t) (x t) && le_z (x t) (hx t) && (le_z (ly t) (y t) && le_z (y t) (hy t)) && (le_z (lz t) (z t) && le_z (z t) (hz t))
