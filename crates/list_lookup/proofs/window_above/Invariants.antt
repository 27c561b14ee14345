-- `list_lookup::window_above` meets its contract: all records before `lo` lie before the key. Assumes nothing.
use Prim.Native.Nat.{◌-◌, ◌≤◌, ◌<◌}
use Rattle.list_lookup.specs.Lookup.{Behind}
use Rattle.list_lookup.proofs.window_above.Given as goal

abbrev pub invariant-loop-step : goal.invariant-loop-step
invariant-loop-step l = Behind l.records l.n l.want l.lo × (0 < l.step) × (l.step ≤ 33554432) × (l.from ≤ l.lo)

abbrev pub decreases-loop-step : goal.decreases-loop-step
decreases-loop-step l = l.n - l.lo
