-- `marking_checks::few_and_on` meets its contract: the points before v fall on cells. Assumes nothing.
use mathlib.Core.Bool.{true}
use mathlib.Core.Path.{◌≡◌}
use Prim.Native.Nat.{ℕ, ◌<◌}
use Rattle.marking_mesh.specs.Mesh.{on_grid, vertex_of}
use Rattle.marking_checks.proofs.few_and_on.Given as goal

abbrev pub invariant-loop-v : goal.invariant-loop-v
invariant-loop-v l = (u : ℕ) → u < l.v → on_grid l.r (vertex_of l.ps l.placement u) ≡ true
