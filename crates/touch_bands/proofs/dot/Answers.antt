-- `touch_bands::dot` meets its contract. Assumes nothing.
use Rattle.ints.specs.Bound.{arg, plus, times, v_add, v_mul, fits}
use Rattle.touch.specs.Touch.{dot_z}
use Rattle.touch_bands.proofs.dot.Goals as goal

pub overflow_add-result : goal.overflow_add-result
overflow_add-result c = fits tt (v_add (times tt (arg tt (c.requires.direction_fits.at 0)) (arg tt (c.requires.vertex_fits.at 0))) (times tt (arg tt (c.requires.direction_fits.at 1)) (arg tt (c.requires.vertex_fits.at 1))))

pub overflow_mul-result-3 : goal.overflow_mul-result-3
overflow_mul-result-3 c = fits tt (v_mul (arg tt (c.requires.direction_fits.at 2)) (arg tt (c.requires.vertex_fits.at 2)))

pub overflow_add-result-2 : goal.overflow_add-result-2
overflow_add-result-2 c = fits tt (v_add (plus tt (times tt (arg tt (c.requires.direction_fits.at 0)) (arg tt (c.requires.vertex_fits.at 0))) (times tt (arg tt (c.requires.direction_fits.at 1)) (arg tt (c.requires.vertex_fits.at 1)))) (times tt (arg tt (c.requires.direction_fits.at 2)) (arg tt (c.requires.vertex_fits.at 2))))

pub returns : goal.returns
unfolding dot_z
returns c = (plus tt (plus tt (times tt (arg tt (c.requires.direction_fits.at 0)) (arg tt (c.requires.vertex_fits.at 0))) (times tt (arg tt (c.requires.direction_fits.at 1)) (arg tt (c.requires.vertex_fits.at 1)))) (times tt (arg tt (c.requires.direction_fits.at 2)) (arg tt (c.requires.vertex_fits.at 2)))).is
