-- `boxes::write_boxes` meets its contract: a walk in list order, the box of each cell that has the label (`Writing`). Assumes nothing.
use native.Mathlib.Omega.{arith}
use mathlib.Core.Bool.{true}
use mathlib.Core.Path.{◌≡◌, sym, ap, ◌∙◌}
use Prim.Native.Nat.{ℕ, ◌<◌}
use lib.ListN.{get_or}
use borrow.Author.Tests.{eq-eqb, ne_eqb}
use Rattle.grid.specs.Counts.{count_of}
use Rattle.grid.specs.Grid.{InGrid, at}
use Rattle.order.proofs.Orders.{stands_in}
use Rattle.boxes.proofs.Writes.{asked, writing_none, writing_no, writing_yes, writing_room, writing_done, count_few}
use Rattle.boxes.proofs.write_boxes.Goals as goal
use Rattle.boxes.proofs.write_boxes.Goals.{After-number, In-loop-next, Then-labels-number}

-- what is read is the cell's label
label_is : (c : After-number) → get_or c.args.labels.now c.number.result 0 ≡ at c.args.r c.args.labels.now c.loop-next.next
label_is c = ap (λ (k : ℕ). get_or c.args.labels.now k 0) c.number.ensures

-- a turn that finds the label: there is one box more than those written
found : (c : Then-labels-number) → asked c.args.r c.args.labels.now c.args.label c.loop-next.next ≡ true
found c = eq-eqb _ _ (sym (label_is (goal.at.Then-labels-number c).After-number) ∙ c.if-labels-number.true)

room : (c : Then-labels-number) → c.loop-next.n < count_of c.args.label c.args.labels.now
room c = writing_room _ _ _ _ _ _ c.requires.sheet _ _ _ _ c.loop-next.invariant c.loop-next-test.true _ c.following-next.ensures.0 c.following-next.ensures.1 (found c)

few : (c : Then-labels-number) → c.loop-next.n < 16777216
few c = omega (arith, room c, count_few c.args.labels.now c.args.r c.args.label c.requires.sheet)

-- the cell of a turn is one of the grid
here : (c : In-loop-next) → InGrid c.args.r c.loop-next.next
here c = stands_in _ _ c.loop-next.invariant.passing.on c.loop-next-test.true

pub loop-next-init : goal.loop-next-init
loop-next-init c = let a = c.args in writing_none a.labels.now a.r a.label a.placement a.points.now a.triangles.now c.requires.sheet

pub overflow_add-n : goal.overflow_add-n
overflow_add-n c = omega (arith, few c)

pub overflow_mul-b : goal.overflow_mul-b
overflow_mul-b c = omega (arith, few (goal.at.overflow_mul-b c).Then-labels-number)

pub put_corners-requires : goal.put_corners-requires
put_corners-requires c = let g = here (goal.at.put_corners-requires c).In-loop-next in
    let s = c.requires.sheet.sound in record { from_in_bounds = omega (arith, room (goal.at.put_corners-requires c).Then-labels-number, c.requires.points_room, c.loop-next.invariant.points.size); i_bound = (omega (arith, g.i_in, s.axis0.most), omega (arith, g.j_in, s.axis1.most), omega (arith, g.k_in, s.axis2.most)) }

pub overflow_mul-b-then-labels-number : goal.overflow_mul-b-then-labels-number
overflow_mul-b-then-labels-number c = omega (arith, few (goal.at.overflow_mul-b-then-labels-number c).Then-labels-number)

pub overflow_mul-base : goal.overflow_mul-base
overflow_mul-base c = omega (arith, few (goal.at.overflow_mul-base c).Then-labels-number)

pub overflow_cast-base : goal.overflow_cast-base
overflow_cast-base c = omega (arith, few (goal.at.overflow_cast-base c).Then-labels-number)

pub put_triangles-requires : goal.put_triangles-requires
put_triangles-requires c = (omega (arith, room (goal.at.put_triangles-requires c).Then-labels-number, c.requires.triangles_room, c.loop-next.invariant.triangles.size), omega (arith, few (goal.at.put_triangles-requires c).Then-labels-number))

pub loop-next-preserved-then-labels-number : goal.loop-next-preserved-then-labels-number
loop-next-preserved-then-labels-number c =
    writing_yes _ _ _ _ _ _ c.requires.sheet _ _ _ _ c.loop-next.invariant c.loop-next-test.true _ c.following-next.ensures.0 c.following-next.ensures.1 (found (goal.at.loop-next-preserved-then-labels-number c).Then-labels-number) _ _ c.put_corners.ensures c.put_triangles.ensures

pub loop-next-preserved : goal.loop-next-preserved
loop-next-preserved c =
    let a = c.args in
    let other = ne_eqb (at a.r a.labels.now c.loop-next.next) a.label (λ e. c.if-labels-number.false (label_is (goal.at.loop-next-preserved c).After-number ∙ e)) in
    writing_no _ _ _ _ _ _ c.requires.sheet _ _ _ _ c.loop-next.invariant c.loop-next-test.true _ c.following-next.ensures.0 c.following-next.ensures.1 other

pub returns : goal.returns
returns c = let w = writing_done _ _ _ _ _ _ c.requires.sheet _ _ _ _ c.loop-next.invariant c.loop-next-test.false in record { written = w.0; triangles_written = w.1 }
