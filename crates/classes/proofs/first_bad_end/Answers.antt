-- `classes::first_bad_end` meets its contract. The loop's invariant is `Looking`: the place is still to be found, from p on. Assumes nothing.
use mathlib.Core.Path.{sym, ◌∙◌}
use Rattle.classes.proofs.Ending.{ends_on, ends_here, ends_done}
use Rattle.classes.proofs.first_bad_end.Goals as goal

pub returns-then-bad_end : goal.returns-then-bad_end
returns-then-bad_end c = let a = c.args in ends_here a.ends.now a.len c.loop-p.p c.loop-p.invariant c.loop-p-test.true (sym c.bad_end.ensures ∙ c.if-bad_end.true)

pub loop-p-preserved : goal.loop-p-preserved
loop-p-preserved c = let a = c.args in ends_on a.ends.now a.len c.loop-p.p c.loop-p.invariant c.loop-p-test.true (sym c.bad_end.ensures ∙ c.if-bad_end.false)

pub returns : goal.returns
returns c = let a = c.args in ends_done a.ends.now a.len c.loop-p.p c.loop-p.invariant c.loop-p-test.false
