-- `marking_cuts::cut` meets its contract: a falling line is cut upside down, and a level one is kept or dropped. Assumes nothing.
use Rattle.ints.specs.Bound.{arg, negate}
use Rattle.marking_cuts.proofs.Laws.{lies_back, cut_is, cut_same}
use Rattle.marking_cuts.proofs.cut.Goals as goal

pub returns-then-step-lt0 : goal.returns-then-step-lt0
returns-then-step-lt0 c =
    let a = c.args in
    let p = c.requires in
    cut_same a.e _ _ _ (cut_is a.e _ (negate tt (arg tt p.2)).is (negate tt (arg tt p.4)).is (negate tt (arg tt p.3)).is c.cut_rising-then-step-lt0.ensures) (lies_back a.step a.low a.high)
