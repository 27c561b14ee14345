-- `fill_scans::scan_slabs` meets its contract: a slab in each turn (`Turns`). Assumes nothing.
use mathlib.Core.Path.{◌≡◌}
use lib.ListN.{length}
use Rattle.fill_walks.specs.Scan.{slabbed}
use Rattle.fill_walks.proofs.Turns.{Turns}
use Rattle.fill_groups.specs.Groups.{Covers}
use Rattle.fill_scans.proofs.scan_slabs.Given as goal

abbrev pub invariant-loop-i : goal.invariant-loop-i
invariant-loop-i l = Turns l.r (λ i. slabbed l.p l.r i) l.fn.slabs.from l.fn.slabs.to 65536 l.initial.l l.before l.l l.walked l.i × Covers l.p l.r l.l l.table × (length l.table ≡ length l.initial.table)
