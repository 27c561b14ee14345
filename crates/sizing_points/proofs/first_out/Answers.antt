-- `sizing_points::first_out` meets its contract. The loop's invariant is `Looking`: the place is still to be found, from i on. Assumes nothing.
use mathlib.Core.Path.{sym, ◌∙◌}
use lib.Ieee.{nan}
use Rattle.grid.proofs.First.{looking_on, looking_here, looking_done}
use Rattle.sizing_points.proofs.first_out.Goals as goal

pub loop-i-preserved : goal.loop-i-preserved
loop-i-preserved c =
    looking_on _ nan _ c.loop-i.i c.loop-i-test.true c.loop-i.invariant (sym c.in_bounds.ensures ∙ c.if-not-in_bounds.false)

pub returns-then-not-in_bounds : goal.returns-then-not-in_bounds
returns-then-not-in_bounds c =
    looking_here _ nan _ c.loop-i.i c.loop-i-test.true c.loop-i.invariant (sym c.in_bounds.ensures ∙ c.if-not-in_bounds.true)

pub returns : goal.returns
returns c = looking_done _ nan _ _ c.loop-i-test.false c.loop-i.invariant
