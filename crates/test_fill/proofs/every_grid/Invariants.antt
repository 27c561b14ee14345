-- `test_fill::every_grid` has totals that fit: each grid adds less than 2 ^ 32. Assumes nothing.
use Prim.Native.Nat.{◌*◌, ◌≤◌}
use Rattle.test_fill.proofs.every_grid.Given as goal

abbrev pub invariant-loop-m : goal.invariant-loop-m
invariant-loop-m l = (l.t.scans ≤ 4294967291 * l.m) × (l.t.left ≤ 4294967291 * l.m)
