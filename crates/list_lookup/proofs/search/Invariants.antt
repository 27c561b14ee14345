-- `list_lookup::search` meets its contract: the window is halved. Assumes nothing.
use Prim.Native.Nat.{◌-◌, ◌≤◌}
use Rattle.list_lookup.specs.Lookup.{Behind, Ahead}
use Rattle.list_lookup.proofs.search.Given as goal

abbrev pub invariant-loop-lo : goal.invariant-loop-lo
invariant-loop-lo l = Behind l.records l.n l.want l.lo × Ahead l.records l.n l.want l.hi × (l.lo ≤ l.hi) × (l.from ≤ l.lo)

abbrev pub decreases-loop-lo : goal.decreases-loop-lo
decreases-loop-lo l = l.hi - l.lo
