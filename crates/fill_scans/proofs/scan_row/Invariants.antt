-- `fill_scans::scan_row` meets its contract: a group that is not raised changes nothing (`row_low`), and the others are visited (`row_high`). Assumes nothing.
use mathlib.Core.Path.{◌≡◌}
use lib.ListN.{length}
use Rattle.fill_groups.specs.Groups.{Covers}
use Rattle.fill_scans.proofs.Rounds.{Row}
use Rattle.fill_scans.proofs.scan_row.Given as goal

abbrev pub invariant-loop-g : goal.invariant-loop-g
invariant-loop-g l = Row l.p l.r l.i l.j l.initial.l l.before l.l l.walked l.g × Covers l.p l.r l.l l.table × (length l.table ≡ length l.initial.table)
