-- `fill_visits::along` meets its contract: the groups between the two walks' ends cover what they passed (`covers_line`). Assumes nothing.
use native.Mathlib.Omega.{arith}
use Prim.Native.Nat.{ℕ, ◌≤◌, ◌<◌}
use Rattle.grid.specs.declared.Axes.{Axes}
use Rattle.grid.specs.declared.Cell.{Cell}
use Rattle.grid.specs.Grid.{Sound, InGrid}
use Rattle.fill_groups.specs.declared.Axis.{Axis}
use Rattle.fill_groups.specs.declared.Axis.TheVariants.{I, J, K}
use Rattle.fill_groups.specs.Groups.{InTable, moved, extent}
use Rattle.grid.proofs.Cells.{terms}
use Rattle.fill_groups.proofs.Lines.{span_line, covers_line}
use Rattle.fill_visits.proofs.along.Goals as goal

pub both_ways-w-requires : goal.both_ways-w-requires
both_ways-w-requires c =
    let a = c.args in
    let t = terms a.r a.c c.requires.sheet.0.sound c.requires.in_grid.0 in
    rw c.line_along-a.ensures (span_line a.axis a.r a.c c.requires.in_grid.0 a.n c.requires.in_grid.1 _ c.requires.sheet.0.size (omega (arith, c.requires.sheet.0.sound.axis0.most)) t.r01)

-- the cell at the upper end of a walk is in the table
upper : (axis : Axis) (r : Axes) (c : Cell) (x : ℕ) → Sound r → InGrid r c → x < extent axis r → InTable (moved axis c x)
upper I r c x s g h = record { i_in = omega (arith, h, s.axis0.most); j_in = omega (arith, g.j_in, s.axis1.most); k_in = omega (arith, g.k_in, s.axis2.most) }
upper J r c x s g h = record { i_in = omega (arith, g.i_in, s.axis0.most); j_in = omega (arith, h, s.axis1.most); k_in = omega (arith, g.k_in, s.axis2.most) }
upper K r c x s g h = record { i_in = omega (arith, g.i_in, s.axis0.most); j_in = omega (arith, g.j_in, s.axis1.most); k_in = omega (arith, h, s.axis2.most) }

short : (axis : Axis) (r : Axes) → Sound r → extent axis r ≤ 256
short I r s = s.axis0.most
short J r s = s.axis1.most
short K r s = s.axis2.most

pub raise_along-requires : goal.raise_along-requires
raise_along-requires c =
    let a = c.args in
    let s = c.requires.sheet.0.sound in
    let e = c.line_along-a.ensures in
    let h = rw e at c.both_ways-w.ensures.swept.1 in
    rw e (c.requires.sheet.2.size, omega arith, omega (arith, h, short a.axis a.r s), upper a.axis a.r a.c _ s c.requires.in_grid.0 h)

pub returns-clause-covers : goal.returns-clause-covers
returns-clause-covers c =
    let a = c.args in
    let e = c.line_along-a.ensures in
    let w = c.both_ways-w.ensures.swept in
    covers_line a.p c.requires.sheet.1 a.axis a.r a.c c.requires.in_grid.0 a.n c.requires.in_grid.1 _ _ _ _ _ _ (rw e at w.0) (rw e at w.1) (rw e at w.2) c.raise_along.ensures.raises (rw e at c.raise_along.ensures.by_index) c.requires.sheet.2
