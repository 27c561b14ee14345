-- `list_lookup::window_below` meets its contract: no record from `hi` on lies before the key. Assumes nothing.
use Prim.Native.Nat.{◌-◌, ◌≤◌, ◌<◌}
use Rattle.list_lookup.specs.Lookup.{Ahead}
use Rattle.list_lookup.proofs.window_below.Given as goal

abbrev pub invariant-loop-step : goal.invariant-loop-step
invariant-loop-step l = Ahead l.records l.n l.want l.hi × (0 < l.step) × (l.step ≤ 33554432) × (l.from ≤ l.hi)

abbrev pub decreases-loop-step : goal.decreases-loop-step
decreases-loop-step l = l.hi - l.from
