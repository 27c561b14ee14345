-- `grid::first_not_taken` meets its contract. The loop's invariant is `Looking`: the place is still to be found, from i on. Assumes nothing.
use mathlib.Core.Path.{sym, ◌∙◌}
use Rattle.grid.proofs.First.{looking_on, looking_here, looking_done}
use Rattle.grid.proofs.first_not_taken.Goals as goal

pub loop-n-preserved : goal.loop-n-preserved
loop-n-preserved c =
    looking_on _ 0 _ c.loop-n.n c.loop-n-test.true c.loop-n.invariant (sym c.taken.ensures ∙ c.if-not-taken.false)

pub returns-then-not-taken : goal.returns-then-not-taken
returns-then-not-taken c =
    looking_here _ 0 _ c.loop-n.n c.loop-n-test.true c.loop-n.invariant (sym c.taken.ensures ∙ c.if-not-taken.true)

pub returns : goal.returns
returns c = looking_done _ 0 _ _ c.loop-n-test.false c.loop-n.invariant
