-- `list_hits::guess_slab` meets its contract: it stays within the table. Assumes nothing.
use mathlib.Core.Path.{◌≡◌}
use lib.ListN.{length}
use Rattle.list_hits.proofs.guess_slab.Given as goal

abbrev pub invariant-loop-j : goal.invariant-loop-j
invariant-loop-j l = length l.guesses ≡ length l.initial.guesses
