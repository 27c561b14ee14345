-- `sizing_points::first_out` meets its contract. The loop's invariant is `Looking`: the place is still to be found, from i on. Assumes nothing.
use Rattle.grid.proofs.First.{Looking}
use Rattle.sizing_points.specs.Points.{bounded}
use Rattle.sizing_points.proofs.first_out.Given as goal

abbrev pub invariant-loop-i : goal.invariant-loop-i
invariant-loop-i l = Looking (bounded 20) l.ps l.i
