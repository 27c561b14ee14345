-- `touch_bands::cross_of` meets its contract. Assumes nothing.
use Rattle.ints.specs.Bound.{arg, minus, times, v_sub, v_mul, fits, cons3}
use Rattle.touch.specs.Touch.{cross}
use Rattle.touch_bands.proofs.cross_of.Goals as goal

pub overflow_mul-result-2 : goal.overflow_mul-result-2
overflow_mul-result-2 c = fits tt (v_mul (arg tt (c.requires.edge_fits.at 2)) (arg tt (c.requires.other_edge_fits.at 1)))

pub overflow_sub-result : goal.overflow_sub-result
overflow_sub-result c = fits tt (v_sub (times tt (arg tt (c.requires.edge_fits.at 1)) (arg tt (c.requires.other_edge_fits.at 2))) (times tt (arg tt (c.requires.edge_fits.at 2)) (arg tt (c.requires.other_edge_fits.at 1))))

pub overflow_mul-result-3 : goal.overflow_mul-result-3
overflow_mul-result-3 c = fits tt (v_mul (arg tt (c.requires.edge_fits.at 2)) (arg tt (c.requires.other_edge_fits.at 0)))

pub overflow_mul-result-4 : goal.overflow_mul-result-4
overflow_mul-result-4 c = fits tt (v_mul (arg tt (c.requires.edge_fits.at 0)) (arg tt (c.requires.other_edge_fits.at 2)))

pub overflow_sub-result-2 : goal.overflow_sub-result-2
overflow_sub-result-2 c = fits tt (v_sub (times tt (arg tt (c.requires.edge_fits.at 2)) (arg tt (c.requires.other_edge_fits.at 0))) (times tt (arg tt (c.requires.edge_fits.at 0)) (arg tt (c.requires.other_edge_fits.at 2))))

pub overflow_mul-result-5 : goal.overflow_mul-result-5
overflow_mul-result-5 c = fits tt (v_mul (arg tt (c.requires.edge_fits.at 0)) (arg tt (c.requires.other_edge_fits.at 1)))

pub overflow_mul-result-6 : goal.overflow_mul-result-6
overflow_mul-result-6 c = fits tt (v_mul (arg tt (c.requires.edge_fits.at 1)) (arg tt (c.requires.other_edge_fits.at 0)))

pub overflow_sub-result-3 : goal.overflow_sub-result-3
overflow_sub-result-3 c = fits tt (v_sub (times tt (arg tt (c.requires.edge_fits.at 0)) (arg tt (c.requires.other_edge_fits.at 1))) (times tt (arg tt (c.requires.edge_fits.at 1)) (arg tt (c.requires.other_edge_fits.at 0))))

pub returns : goal.returns
unfolding cross
returns c = cons3 (minus tt (times tt (arg tt (c.requires.edge_fits.at 1)) (arg tt (c.requires.other_edge_fits.at 2))) (times tt (arg tt (c.requires.edge_fits.at 2)) (arg tt (c.requires.other_edge_fits.at 1)))).is (minus tt (times tt (arg tt (c.requires.edge_fits.at 2)) (arg tt (c.requires.other_edge_fits.at 0))) (times tt (arg tt (c.requires.edge_fits.at 0)) (arg tt (c.requires.other_edge_fits.at 2)))).is (minus tt (times tt (arg tt (c.requires.edge_fits.at 0)) (arg tt (c.requires.other_edge_fits.at 1))) (times tt (arg tt (c.requires.edge_fits.at 1)) (arg tt (c.requires.other_edge_fits.at 0)))).is
