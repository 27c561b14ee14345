-- `list_tally::count_pairs` meets its contract: triangle after triangle (`Paired`). Assumes nothing.
use native.Mathlib.Nat.{div-add-mod}
use native.Mathlib.Omega.{arith}
use lib.ListN.{length}
use Rattle.list_tally.specs.Pairs.{joins}
use Rattle.list_tally.proofs.Sizes.{paired_none, paired_more, size_most}
use Rattle.list_tally.proofs.count_pairs.Goals as goal

pub loop-t-init : goal.loop-t-init
loop-t-init c = let a = c.args in paired_none a.ps.now a.ts.now a.r a.placement a.labels.now

pub overflow_add-n : goal.overflow_add-n
overflow_add-n c = let a = c.args in omega (arith, c.loop-t.invariant.few, c.loop-t-test.true, c.count_triangle.ensures, size_most a.r c.requires.sheet.sound (joins a.ps.now a.ts.now a.r a.placement a.labels.now c.loop-t.t), c.requires.ready.few, div-add-mod (length a.ts.now) 3)

pub loop-t-preserved : goal.loop-t-preserved
loop-t-preserved c = let a = c.args in paired_more a.ps.now a.ts.now a.r a.placement a.labels.now c.requires.sheet.sound _ _ _ c.loop-t.invariant c.count_triangle.ensures
