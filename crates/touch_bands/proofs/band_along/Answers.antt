-- `touch_bands::band_along` meets its contract. Assumes nothing.
use lib.IntN.{pos}
use Rattle.numbers.specs.Rounding.{units}
use Rattle.ints.specs.Bound.{arg, got, lit, times, plus, minus, v_add, v_sub, fits}
use Rattle.touch.specs.Bands.{band_of}
use Rattle.touch.proofs.Laws.{dot_in, reach_in, v_lesser, v_greater}
use Rattle.touch_bands.proofs.band_along.Goals as goal

pub overflow_sub-result : goal.overflow_sub-result
overflow_sub-result c =
    let a = got tt c.dot-a.ensures (dot_in c.requires.direction_fits (c.requires.triangle_fits.at 0)) in
    let b = got tt c.dot-b.ensures (dot_in c.requires.direction_fits (c.requires.triangle_fits.at 1)) in
    let d = got tt c.dot-c.ensures (dot_in c.requires.direction_fits (c.requires.triangle_fits.at 2)) in
    let r = got tt c.cube_reach-r.ensures (reach_in c.requires.direction_fits) in
    fits tt (v_sub (v_lesser tt c.min-2.ensures.value (v_lesser tt c.min.ensures.value a b) d) r)

pub overflow_add-result : goal.overflow_add-result
overflow_add-result c =
    let a = got tt c.dot-a.ensures (dot_in c.requires.direction_fits (c.requires.triangle_fits.at 0)) in
    let b = got tt c.dot-b.ensures (dot_in c.requires.direction_fits (c.requires.triangle_fits.at 1)) in
    let d = got tt c.dot-c.ensures (dot_in c.requires.direction_fits (c.requires.triangle_fits.at 2)) in
    let r = got tt c.cube_reach-r.ensures (reach_in c.requires.direction_fits) in
    fits tt (v_add (v_greater tt c.max-2.ensures.value (v_greater tt c.max.ensures.value a b) d) r)

pub returns : goal.returns
unfolding band_of
returns c =
    let a = got tt c.dot-a.ensures (dot_in c.requires.direction_fits (c.requires.triangle_fits.at 0)) in
    let b = got tt c.dot-b.ensures (dot_in c.requires.direction_fits (c.requires.triangle_fits.at 1)) in
    let d = got tt c.dot-c.ensures (dot_in c.requires.direction_fits (c.requires.triangle_fits.at 2)) in
    let r = got tt c.cube_reach-r.ensures (reach_in c.requires.direction_fits) in
    let x = (times tt (lit (pos units)) (arg tt (c.requires.direction_fits.at 0))).is in
    let y = (times tt (lit (pos units)) (arg tt (c.requires.direction_fits.at 1))).is in
    let z = (times tt (lit (pos units)) (arg tt (c.requires.direction_fits.at 2))).is in
    let low = (minus tt (v_lesser tt c.min-2.ensures.value (v_lesser tt c.min.ensures.value a b) d) r).is in
    let high = (plus tt (v_greater tt c.max-2.ensures.value (v_greater tt c.max.ensures.value a b) d) r).is in
    λ t. record { x = x t; y = y t; z = z t; low = low t; high = high t }
