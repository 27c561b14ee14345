-- `touch_bands::cube_reach` meets its contract. Assumes nothing.
use Rattle.ints.specs.Bound.{arg, sized, lit, plus, times}
use Rattle.touch.specs.Touch.{cube_reach}
use Rattle.numbers.specs.Rounding.{half}
use lib.IntN.{pos}
use Rattle.touch_bands.proofs.cube_reach.Goals as goal

pub returns : goal.returns
unfolding cube_reach
returns c = (times tt (lit (pos half)) (plus tt (plus tt (sized tt c.abs.ensures.value (arg tt (c.requires.at 0))) (sized tt c.abs-2.ensures.value (arg tt (c.requires.at 1)))) (sized tt c.abs-3.ensures.value (arg tt (c.requires.at 2))))).is
