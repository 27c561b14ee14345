-- `list_hits::guesses` meets its contract: a table of 65,536. Assumes nothing.
use mathlib.Core.Path.{◌≡◌}
use lib.ListN.{length}
use Rattle.list_hits.proofs.guesses.Given as goal

abbrev pub invariant-loop-i : goal.invariant-loop-i
invariant-loop-i l = 65536 ≡ length l.out
