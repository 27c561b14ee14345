-- `marking_checks::first_off` meets its contract. The loop's invariant is `Looking`: the place is still to be found, from k on. Assumes nothing.
use Prim.Native.Nat.{ℕ}
use Rattle.grid.proofs.First.{Looking}
use Rattle.marking_mesh.specs.Mesh.{on_grid, vertex_of}
use Rattle.marking_checks.proofs.first_off.Given as goal

abbrev pub invariant-loop-k : goal.invariant-loop-k
invariant-loop-k l = Looking (λ (v : ℕ). on_grid l.r (vertex_of l.ps l.placement v)) l.ts l.k
