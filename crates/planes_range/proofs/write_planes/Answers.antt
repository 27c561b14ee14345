-- `planes_range::write_planes` meets its contract: after n turns the first n planes are written. Assumes nothing.
use native.Mathlib.Omega.{arith}
use mathlib.Core.List.{List, [], ◌∷◌, ◌++◌}
use mathlib.Core.Path.{sym, ap, subst, ◌∙◌}
use lib.Ieee.{Float, nan}
use lib.ListN.{set}
use Rattle.order.specs.Output.{Written}
use Rattle.order.proofs.Lists.{front_more}
use Rattle.order.proofs.Outputs.{written_none}
use Rattle.planes_range.specs.PlaneRange.{planes_of}
use Rattle.planes_range.proofs.Ranges.{planes_length, planes_none, planes_more}
use Rattle.planes_range.proofs.write_planes.Goals as goal

pub loop-n-init : goal.loop-n-init
loop-n-init c =
    let a = c.args in
    subst (λ (l : List Float). Written nan 0 l a.ds.now a.ds.now) (sym (planes_none a.origin a.scale a.first)) (written_none nan 0 a.ds.now)

pub loop-n-preserved : goal.loop-n-preserved
loop-n-preserved c =
    let a = c.args in
    let n = c.loop-n.n in
    let w = c.loop-n.invariant in
    let xs = planes_of a.origin a.scale a.first n in
    let more = front_more nan n xs a.ds.now c.loop-n.ds w (sym (planes_length a.origin a.scale a.first n)) c.plane_at.result (omega (arith, c.loop-n-test.true, c.requires.1)) in
    let e = ap (λ (x : Float). xs ++ (x ∷ [])) c.plane_at.ensures ∙ sym (planes_more a.origin a.scale a.first n) in
    subst (λ (l : List Float). Written nan 0 l a.ds.now (set c.loop-n.ds n c.plane_at.result)) e more
