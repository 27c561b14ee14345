-- `touch::keeps` meets its contract. Assumes nothing.
use mathlib.Core.Bool.{◌&&◌}
use lib.Signed.{le_z}
use Rattle.ints.specs.Bound.{arg, plus, times, v_add, v_mul, fits}
use Rattle.touch.proofs.keeps.Goals as goal

pub overflow_add-p : goal.overflow_add-p
overflow_add-p c =
    let s = c.requires.band_fits in
    let p = c.requires.coordinates_fit in
    fits tt (v_add (times tt (arg tt s.x_in) (arg tt p.i_in)) (times tt (arg tt s.y_in) (arg tt p.j_in)))

pub overflow_mul-p-3 : goal.overflow_mul-p-3
overflow_mul-p-3 c =
    let s = c.requires.band_fits in
    let p = c.requires.coordinates_fit in
    fits tt (v_mul (arg tt s.z_in) (arg tt p.k_in))

pub overflow_add-p-2 : goal.overflow_add-p-2
overflow_add-p-2 c =
    let s = c.requires.band_fits in
    let p = c.requires.coordinates_fit in
    let x = times tt (arg tt s.x_in) (arg tt p.i_in) in
    let y = times tt (arg tt s.y_in) (arg tt p.j_in) in
    let z = times tt (arg tt s.z_in) (arg tt p.k_in) in
    fits tt (v_add (plus tt x y) z)

pub returns : goal.returns
returns c =
    let s = c.requires.band_fits in
    let p = c.requires.coordinates_fit in
    let x = times tt (arg tt s.x_in) (arg tt p.i_in) in
    let y = times tt (arg tt s.y_in) (arg tt p.j_in) in
    let z = times tt (arg tt s.z_in) (arg tt p.k_in) in
    let low = (arg tt s.low_in).is in
    let high = (arg tt s.high_in).is in
    let at = (plus tt (plus tt x y) z).is in
    λ t. le_z (low t) (at t) && le_z (at t) (high t)
