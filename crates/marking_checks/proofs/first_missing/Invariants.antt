-- `marking_checks::first_missing` meets its contract. The loop's invariant is `Looking`: the place is still to be found, from k on. Assumes nothing.
use Rattle.grid.proofs.First.{Looking}
use Rattle.marking_mesh.specs.Faults.{names}
use Rattle.marking_checks.proofs.first_missing.Given as goal

abbrev pub invariant-loop-k : goal.invariant-loop-k
invariant-loop-k l = Looking (names l.n) l.ts l.k
