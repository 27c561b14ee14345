-- `marking::mark_row` meets its contract: a loop along i (`Along`), a cell painted in each turn, over the part that the bands leave. Assumes nothing.
use native.Mathlib.Omega.{arith}
use mathlib.Core.Path.{sym, subst}
use Prim.Native.Nat.{ℕ}
use lib.ListN.{set}
use Rattle.grid.specs.Grid.{InGrid, Sheet}
use Rattle.marking_mesh.specs.Ranges.{holds}
use Rattle.marking.specs.Painted.{Painted, row_of, one}
use Rattle.marking.proofs.Paint.{along_starts, along_on, along_sheet, painted_same, painted_cell, none_held, more_held, done_held, held_left}
use Rattle.marking.proofs.mark_row.Goals as goal

-- the cell of a turn is one of the grid
here : (c : goal.After-number) → InGrid c.args.r (record { i = c.loop-i.i; j = c.args.j; k = c.args.k })
here c =
    let p = c.requires.to_le_r0 in
    record { i_in = omega (arith, p.0, c.loop-i-test.true, c.rest_along_i-left.ensures.within); j_in = p.1; k_in = p.2 }

-- and the labels are still as many
sheet : (c : goal.After-number) → Sheet c.args.r c.loop-i.labels
sheet c = along_sheet c.args.r c.rest_along_i-left.result c.loop-i.i _ _ _ c.loop-i.invariant c.requires.sheet

pub loop-i-init : goal.loop-i-init
loop-i-init c =
    let a = c.args in
    along_starts a.r c.rest_along_i-left.result _ a.labels.now (none_held c.rest_along_i-left.result a.j a.k)

pub loop-i-preserved : goal.loop-i-preserved
loop-i-preserved c =
    let a = c.args in
    let e = c.rest_along_i-left.result in
    let i = c.loop-i.i in
    let m = c.loop-i.labels in
    let cell = painted_cell a.r m i a.j a.k (sheet c) (here c) in
    let there = subst (λ (p : ℕ). Painted a.r (holds (row_of (one i) a.j a.k)) m (set m p 8)) (sym c.number.ensures) cell in
    along_on a.r e i _ _ _ _ _ _ c.loop-i.invariant c.loop-i-test.true there (more_held e a.j a.k i c.loop-i.invariant.walk)

pub returns : goal.returns
returns c =
    let a = c.args in
    let w = c.loop-i.invariant in
    let e = c.rest_along_i-left.result in
    let row = painted_same a.r _ (holds (row_of e a.j a.k)) _ _ w.painted (done_held e a.j a.k c.loop-i.i w.walk c.loop-i-test.false) in
    painted_same a.r _ _ _ _ row (held_left a.e a.j a.k a.s e c.requires.bands_fit.1 c.rest_along_i-left.ensures)
