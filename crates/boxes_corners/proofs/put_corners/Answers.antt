-- `boxes_corners::put_corners` meets its contract: a corner in each turn, in the order of the table. Assumes nothing.
use native.Mathlib.Omega.{arith}
use mathlib.Core.List.{[]}
use lib.Ieee.{nan}
use Rattle.boxes_corners.specs.Corners.{corners, corner_of}
use Rattle.boxes_corners.proofs.Rows.{through_none, through_more, through_all}
use Rattle.boxes_corners.proofs.Tables.{eight_corners, corner_length}
use Rattle.boxes_corners.proofs.put_corners.Goals as goal

pub loop-v-init : goal.loop-v-init
loop-v-init c = let a = c.args in through_none (corner_of a.placement a.c) nan a.from corners a.points.now

pub loop-v-preserved : goal.loop-v-preserved
loop-v-preserved c =
    let a = c.args in
    through_more (corner_of a.placement a.c) 3 (corner_length a.placement a.c) nan a.from [] corners a.points.now _ _ c.loop-v.v c.loop-v.invariant (omega (arith, c.loop-v-test.true, eight_corners)) c.put_corner.ensures

pub returns : goal.returns
returns c =
    let a = c.args in
    through_all (corner_of a.placement a.c) nan a.from corners a.points.now _ c.loop-v.v c.loop-v.invariant (omega (arith, c.loop-v-test.false, eight_corners))
