-- `touch::keeps_products` meets its contract: what is left out is 0. Assumes nothing.
use mathlib.Core.Bool.{◌&&◌}
use mathlib.Core.Path.{◌∙◌}
use lib.Signed.{le_z}
use Rattle.ints.specs.Bound.{arg, plus, times, v_add, v_mul, fits}
use Rattle.touch.proofs.Laws.{products_are}
use Rattle.touch.proofs.keeps_products.Goals as goal

pub overflow_mul-px : goal.overflow_mul-px
overflow_mul-px c = fits tt (v_mul (arg tt c.requires.three_fit.x_ok.y_in) (arg tt c.requires.coordinates_fit.j_in))

pub overflow_mul-px-2 : goal.overflow_mul-px-2
overflow_mul-px-2 c = fits tt (v_mul (arg tt c.requires.three_fit.x_ok.z_in) (arg tt c.requires.coordinates_fit.k_in))

pub overflow_add-px : goal.overflow_add-px
overflow_add-px c =
    let g = c.requires.three_fit.x_ok in
    let p = c.requires.coordinates_fit in
    fits tt (v_add (times tt (arg tt g.y_in) (arg tt p.j_in)) (times tt (arg tt g.z_in) (arg tt p.k_in)))

pub overflow_mul-py : goal.overflow_mul-py
overflow_mul-py c = fits tt (v_mul (arg tt c.requires.three_fit.y_ok.x_in) (arg tt c.requires.coordinates_fit.i_in))

pub overflow_mul-py-2 : goal.overflow_mul-py-2
overflow_mul-py-2 c = fits tt (v_mul (arg tt c.requires.three_fit.y_ok.z_in) (arg tt c.requires.coordinates_fit.k_in))

pub overflow_add-py : goal.overflow_add-py
overflow_add-py c =
    let g = c.requires.three_fit.y_ok in
    let p = c.requires.coordinates_fit in
    fits tt (v_add (times tt (arg tt g.x_in) (arg tt p.i_in)) (times tt (arg tt g.z_in) (arg tt p.k_in)))

pub overflow_mul-pz : goal.overflow_mul-pz
overflow_mul-pz c = fits tt (v_mul (arg tt c.requires.three_fit.z_ok.x_in) (arg tt c.requires.coordinates_fit.i_in))

pub overflow_mul-pz-2 : goal.overflow_mul-pz-2
overflow_mul-pz-2 c = fits tt (v_mul (arg tt c.requires.three_fit.z_ok.y_in) (arg tt c.requires.coordinates_fit.j_in))

pub overflow_add-pz : goal.overflow_add-pz
overflow_add-pz c =
    let g = c.requires.three_fit.z_ok in
    let p = c.requires.coordinates_fit in
    fits tt (v_add (times tt (arg tt g.x_in) (arg tt p.i_in)) (times tt (arg tt g.y_in) (arg tt p.j_in)))

pub returns : goal.returns
returns c =
    let a = c.args in
    let g = c.requires.three_fit in
    let p = c.requires.coordinates_fit in
    let i = arg tt p.i_in in
    let j = arg tt p.j_in in
    let k = arg tt p.k_in in
    let are = products_are a.s c.requires.crosswise a.i a.j a.k in
    let x = (plus tt (times tt (arg tt g.x_ok.y_in) j) (times tt (arg tt g.x_ok.z_in) k)).is ∙ are.0 in
    let y = (plus tt (times tt (arg tt g.y_ok.x_in) i) (times tt (arg tt g.y_ok.z_in) k)).is ∙ are.1 in
    let z = (plus tt (times tt (arg tt g.z_ok.x_in) i) (times tt (arg tt g.z_ok.y_in) j)).is ∙ are.2 in
    let lx = (arg tt g.x_ok.low_in).is in
    let hx = (arg tt g.x_ok.high_in).is in
    let ly = (arg tt g.y_ok.low_in).is in
    let hy = (arg tt g.y_ok.high_in).is in
    let lz = (arg tt g.z_ok.low_in).is in
    let hz = (arg tt g.z_ok.high_in).is in
    λ t. le_z (lx t) (x t) && le_z (x t) (hx t) && (le_z (ly t) (y t) && le_z (y t) (hy t)) && (le_z (lz t) (z t) && le_z (z t) (hz t))
