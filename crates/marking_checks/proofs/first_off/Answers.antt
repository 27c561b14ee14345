-- `marking_checks::first_off` meets its contract. The loop's invariant is `Looking`: the place is still to be found, from k on. Assumes nothing.
use mathlib.Core.Path.{sym, ap, ◌∙◌}
use Rattle.grid.proofs.First.{looking_on, looking_here, looking_done}
use Rattle.marking_mesh.specs.Mesh.{on_grid}
use Rattle.marking_checks.proofs.first_off.Goals as goal

pub loop-k-preserved : goal.loop-k-preserved
loop-k-preserved c =
    let r = c.args.r in
    looking_on _ 0 _ c.loop-k.k c.loop-k-test.true c.loop-k.invariant (sym (c.on_grid.ensures ∙ ap (on_grid r) c.vertex_of.ensures) ∙ c.if-not-on_grid.false)

pub returns-then-not-on_grid : goal.returns-then-not-on_grid
returns-then-not-on_grid c =
    let r = c.args.r in
    looking_here _ 0 _ c.loop-k.k c.loop-k-test.true c.loop-k.invariant (sym (c.on_grid.ensures ∙ ap (on_grid r) c.vertex_of.ensures) ∙ c.if-not-on_grid.true)

pub returns : goal.returns
returns c = looking_done _ 0 _ _ c.loop-k-test.false c.loop-k.invariant
