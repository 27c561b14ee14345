-- `edits_reach::reach` meets its contract: each turn keeps where the trip stands, and has less to do. Assumes nothing.
use mathlib.Core.Path.{◌≡◌}
use mathlib.Core.List.{List}
use Prim.Native.Nat.{ℕ, ◌+◌, ◌-◌}
use lib.ListN.{set}
use Rattle.grid.specs.Grid.{num}
use Rattle.edits_reach.specs.Reach.{MayReach}
use Rattle.edits_reach.proofs.Weights.{weight}
use Rattle.edits_reach.proofs.Going.{Going}
use Rattle.edits_reach.proofs.reach.Given as goal

abbrev pub invariant-loop-next : goal.invariant-loop-next
invariant-loop-next l = (m : List ℕ) → l.initial.l ≡ set m l.initial.n 22 → l.initial.n ≡ num l.r l.initial.c → MayReach l.r l.pass l.done l.stop m l.initial.c → Going l.r l.pass l.done l.stop m l.initial.c l.l l.c l.n l.met l.next l.count

abbrev pub decreases-loop-next : goal.decreases-loop-next
decreases-loop-next l = weight l.pass l.l + (7 - l.next)
