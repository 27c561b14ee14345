-- `fill_visits::walks` meets its contract: both ways on each axis are the six ways (`six_ways`). Assumes nothing.
use mathlib.Core.Path.{ap, ◌∙◌}
use Rattle.fill_walks.specs.Rays.{walked_both}
use Rattle.fill_walks.proofs.Rays.{six_ways}
use Rattle.fill_visits.proofs.walks.Goals as goal

pub returns : goal.returns
returns c = record {
  l_after = c.along-3.ensures.l_after
      ∙ ap (walked_both c.args.p c.args.n 1 c.args.c.i c.args.r.r0) (c.along-2.ensures.l_after ∙ ap (walked_both c.args.p c.args.n c.args.r.r0 c.args.c.j c.args.r.r1) c.along.ensures.l_after)
      ∙ six_ways c.args.p c.args.r c.args.c c.args.n c.args.l.now c.requires.in_grid.1;
  covers = c.along-3.ensures.covers;
}
