-- `test_program::byte_changed` maps at most an input for each value of the byte. Assumes nothing.
use Prim.Native.Nat.{◌<◌}
use Rattle.test_program.proofs.byte_changed.Given as goal

abbrev pub invariant-loop-by : goal.invariant-loop-by
invariant-loop-by l = l.t.mapped < l.by
