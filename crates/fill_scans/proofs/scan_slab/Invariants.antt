-- `fill_scans::scan_slab` meets its contract: a row in each turn (`Turns`). Assumes nothing.
use mathlib.Core.Path.{◌≡◌}
use lib.ListN.{length}
use Rattle.fill_walks.specs.Scan.{rowed}
use Rattle.fill_walks.proofs.Turns.{Turns}
use Rattle.fill_groups.specs.Groups.{Covers}
use Rattle.fill_scans.proofs.scan_slab.Given as goal

abbrev pub invariant-loop-j : goal.invariant-loop-j
invariant-loop-j l = Turns l.r (λ j. rowed l.p l.r l.i j) 0 l.r.r1 256 l.initial.l l.before l.l l.walked l.j × Covers l.p l.r l.l l.table × (length l.table ≡ length l.initial.table)
