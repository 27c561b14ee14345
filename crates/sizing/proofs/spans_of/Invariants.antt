-- `sizing::spans_of` meets its contract. The loop's invariant: the spans are those of the points before i. Assumes nothing.
use mathlib.Core.Path.{◌≡◌}
use Prim.Native.Nat.{◌-◌}
use Rattle.sizing.specs.Sizing.{spans_to}
use Rattle.sizing.proofs.spans_of.Given as goal

abbrev pub invariant-loop-i : goal.invariant-loop-i
invariant-loop-i l = l.s ≡ spans_to l.ps (l.i - 1)
