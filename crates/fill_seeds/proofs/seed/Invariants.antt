-- `fill_seeds::seed` meets its contract: a pass that has come to the first cell of layer k. Assumes nothing.
use Prim.Native.Nat.{◌*◌}
use Rattle.fill_seeds.specs.Seeds.{seed_at}
use Rattle.grid.specs.Passes.{Within}
use Rattle.fill_seeds.proofs.seed.Given as goal

abbrev pub invariant-loop-k : goal.invariant-loop-k
invariant-loop-k l = Within 0 (l.k * (l.r.r0 * l.r.r1)) (seed_at l.r) l.initial.labels l.labels
