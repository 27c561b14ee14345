-- `fill_seeds::seed_layer` meets its contract: a pass that has come to the first cell of row j. Assumes nothing.
use Prim.Native.Nat.{◌+◌, ◌*◌}
use Rattle.fill_seeds.specs.Seeds.{seed_at}
use Rattle.grid.specs.Passes.{Within}
use Rattle.fill_seeds.proofs.seed_layer.Given as goal

abbrev pub invariant-loop-j : goal.invariant-loop-j
invariant-loop-j l = Within l.first (l.first + l.j * l.r.r0) (seed_at l.r) l.initial.labels l.labels
