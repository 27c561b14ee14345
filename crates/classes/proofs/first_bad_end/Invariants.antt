-- `classes::first_bad_end` meets its contract. The loop's invariant is `Looking`: the place is still to be found, from p on. Assumes nothing.
use Rattle.grid.proofs.First.{Looking}
use Rattle.classes.proofs.Ending.{sound, numbers}
use Rattle.classes.proofs.first_bad_end.Given as goal

abbrev pub invariant-loop-p : goal.invariant-loop-p
invariant-loop-p l = Looking (sound l.ends l.len) (numbers l.ends l.len) l.p
