-- `list_tally::count_row` meets its contract: a loop along i (`Tallied`), a cell in each turn, over the part that the bands leave. Assumes nothing.
use mathlib.Core.Bool.{Bool, true, false, cond}
use mathlib.Core.Path.{ap, ◌∙◌}
use Prim.Native.Nat.{ℕ, ◌≤◌}
use native.Mathlib.Omega.{arith}
use lib.Dec.{eqb}
use lib.ListN.{get_or}
use Rattle.grid.specs.declared.Cell.{Cell}
use Rattle.grid.specs.Grid.{InGrid}
use Rattle.grid.proofs.Counts.{one_if}
use Rattle.marking.proofs.Paint.{none_held, done_held, held_left}
use Rattle.list_tally.proofs.Sizes.{tallied_starts, surface_same, turn, tallied_most}
use Rattle.list_tally.proofs.count_row.Goals as goal

one_at_most : (b : Bool) → cond {A = ℕ} b 1 0 ≤ 1
one_at_most true = omega arith
one_at_most false = omega arith

-- the cell of a turn
abbrev cell : goal.After-from-n → Cell
cell c = record { i = c.loop-i.i; j = c.args.j; k = c.args.k }

here : (c : goal.After-from-n) → InGrid c.args.r (cell c)
here c =
    let p = c.requires.to_le_r0 in
    record { i_in = omega (arith, p.0, c.loop-i-test.true, c.rest_along_i-left.ensures.within); j_in = p.1; k_in = p.2 }

pub loop-i-init : goal.loop-i-init
loop-i-init c =
    let a = c.args in
    let e = c.rest_along_i-left.result in
    tallied_starts a.r a.labels.now e _ (none_held e a.j a.k)

pub overflow_add-n : goal.overflow_add-n
overflow_add-n c =
    let a = c.args in
    let l = get_or a.labels.now c.number.result 0 in
    omega (arith, tallied_most a.r c.requires.sheet.sound c.rest_along_i-left.result _ _ _ c.loop-i.invariant, c.from-n.ensures ∙ one_if _, one_at_most (eqb l 8))

pub loop-i-preserved : goal.loop-i-preserved
loop-i-preserved c =
    let a = c.args in
    turn a.r a.labels.now c.rest_along_i-left.result _ a.j a.k _ _ (here c) c.loop-i-test.true c.loop-i.invariant
    (c.from-n.ensures ∙ one_if _ ∙ ap {B = ℕ} (λ (n : ℕ). cond (eqb (get_or a.labels.now n 0) 8) 1 0) c.number.ensures)

pub returns : goal.returns
returns c =
    let a = c.args in
    let w = c.loop-i.invariant in
    w.count
    ∙ surface_same a.r a.labels.now _ _
    (λ d. done_held c.rest_along_i-left.result a.j a.k c.loop-i.i w.walk c.loop-i-test.false d ∙ held_left a.e a.j a.k a.s c.rest_along_i-left.result c.requires.bands_fit.1 c.rest_along_i-left.ensures d)
