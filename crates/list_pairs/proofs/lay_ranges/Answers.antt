-- `list_pairs::lay_ranges` meets its contract: record after record (`Laying`). Assumes nothing.
use native.Mathlib.Omega.{arith}
use Rattle.list_pairs.proofs.Layings.{laying_first, laying_fits, laying_more}
use Rattle.list_pairs.proofs.lay_ranges.Goals as goal

pub loop-p-init : goal.loop-p-init
loop-p-init c = laying_first c.args.n c.args.records.now

pub overflow_add-s : goal.overflow_add-s
overflow_add-s c = omega (arith, laying_fits c.args.n c.args.records.now _ _ _ c.loop-p.invariant c.loop-p-test.true _ c.read-e.ensures c.requires.1)

pub loop-p-preserved : goal.loop-p-preserved
loop-p-preserved c = laying_more c.args.n c.args.records.now _ _ _ c.loop-p.invariant c.loop-p-test.true _ c.read-e.ensures _ c.set_range.ensures
