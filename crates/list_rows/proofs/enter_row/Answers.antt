-- `list_rows::enter_row` meets its contract: record after record (`Rowing`). Assumes nothing.
use mathlib.Core.Path.{refl}
use Prim.Native.Nat.{◌<◌}
use native.Mathlib.Omega.{arith}
use borrow.Author.Tests.{eq-eqb, ne_eqb}
use Rattle.order.specs.Order.{key}
use Rattle.list_rows.proofs.Rowing.{rowing_stop, rowing_yes, rowing_no, rowing_place}
use Rattle.list_rows.proofs.enter_row.Goals as goal

pub returns-then-over : goal.returns-then-over
returns-then-over c = let v = c.loop-x.invariant in rowing_stop _ _ _ _ _ v.0 _ _ _ _ _ v.1 c.loop-x-test.true _ c.read-e.ensures (omega (arith, c.if-over.true, c.key_of.ensures))

pub loop-x-preserved : goal.loop-x-preserved
loop-x-preserved c =
    let v = c.loop-x.invariant in let l = c.loop-x-test.true in
    let u : key c.read-e.result.cell < c.args.past = omega (arith, c.if-over.false, c.key_of.ensures) in
    elim c.if-surface.branch [
      | goal.then-surface w ↦ let z = eq-eqb _ 1 w.if-surface.true in (
        v.0,
        rw (w.records-is, w.list-is)
            (rowing_yes _ _ _ _ _ v.0 _ _ _ _ _ v.1 l _ c.read-e.ensures u z _ c.requires.room _ _ w.give.ensures.put_record (λ y. rowing_place _ _ _ _ _ v.0 _ _ _ _ _ v.1 l _ c.read-e.ensures u z _ c.requires.room y refl) w.give.ensures.list_after),
      )
      | goal.else-surface w ↦ (v.0, rw (w.records-is, w.list-is) (rowing_no _ _ _ _ _ v.0 _ _ _ _ _ v.1 l _ c.read-e.ensures u (ne_eqb _ 1 w.if-surface.false)))
    ]
