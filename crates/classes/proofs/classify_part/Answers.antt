-- `classes::classify_part` meets its contract: the entries up to e have been met. Assumes nothing.
use native.Mathlib.Omega.{arith}
use Prim.Native.Nat.{◌<◌}
use lib.ListN.{length, get_or}
use Rattle.classes.proofs.Naming.{classified_none, classified_more}
use Rattle.classes.proofs.classify_part.Goals as goal

-- the entry of a turn names a triangle
named : (c : goal.After-with_part) → get_or c.args.entries.now c.loop-e.e 0 < length c.loop-e.classes
named c =
    omega (arith, c.requires.named_below.names c.loop-e.e (omega (arith, c.loop-e-test.true, c.requires.from_le_to.1)), c.loop-e.invariant.size)

pub loop-e-init : goal.loop-e-init
loop-e-init c = classified_none c.args.entries.now c.args.from c.args.part c.args.classes.now

pub loop-e-preserved : goal.loop-e-preserved
loop-e-preserved c =
    let a = c.args in
    classified_more a.entries.now a.from a.part c.loop-e.e c.with_part.result a.classes.now c.loop-e.classes c.loop-e.auto.e (named c) c.with_part.ensures c.loop-e.invariant
