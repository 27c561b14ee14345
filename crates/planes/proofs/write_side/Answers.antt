-- `planes::write_side` meets its contract: after v turns those of the first v points that go to the side are written. Assumes nothing.
use mathlib.Core.Path.{◌≡◌, sym, ◌∙◌}
use mathlib.Core.Bool.{Bool, true, false}
use Rattle.sizing.specs.Sizing.{coord}
use Rattle.planes.specs.Split.{goes_to}
use Rattle.planes.proofs.Sums.{parted_none, parted_is, parted_room, parted_more, parted_same}
use Rattle.planes.proofs.write_side.Goals as goal

pub loop-v-init : goal.loop-v-init
loop-v-init c = let a = c.args in parted_none a.side a.ps.now a.axis a.d a.out.now

pub put_point-requires : goal.put_point-requires
put_point-requires c = (parted_room c.args.side c.args.ps.now c.args.axis c.args.d c.loop-v.v c.loop-v-test.true (sym c.goes_to.ensures ∙ c.if-goes_to.true) c.args.out.now c.loop-v.out c.loop-v.n c.loop-v.invariant c.requires.d_in_bounds, c.loop-v-test.true)

pub loop-v-preserved : goal.loop-v-preserved
loop-v-preserved c =
    let a = c.args in
    let l = c.loop-v in
    let to : (b : Bool) → c.goes_to.result ≡ b → goes_to a.side (coord a.ps.now a.axis l.v) a.d ≡ b = λ b e. sym c.goes_to.ensures ∙ e in
    elim c.if-goes_to.branch [
      | goal.then-goes_to w ↦ parted_is a.side a.ps.now a.axis a.d _ _ _ _ _ _ w.out-is w.n-is (parted_more a.side a.ps.now a.axis a.d l.v c.loop-v-test.true (to true w.if-goes_to.true) a.out.now l.out _ l.n l.invariant w.put_point.ensures)
      | goal.else-goes_to w ↦ parted_is a.side a.ps.now a.axis a.d _ _ _ _ _ _ w.out-is w.n-is (parted_same a.side a.ps.now a.axis a.d l.v c.loop-v-test.true (to false w.if-goes_to.false) a.out.now l.out l.n l.invariant)
    ]
