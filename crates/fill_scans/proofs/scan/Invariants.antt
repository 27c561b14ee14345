-- `fill_scans::scan` meets its contract: block by block (`Scanning`). Assumes nothing.
use Rattle.fill_scans.proofs.Rounds.{Scanning}
use Rattle.fill_scans.proofs.scan.Given as goal

abbrev pub invariant-loop-b : goal.invariant-loop-b
invariant-loop-b l = Scanning l.p l.r l.initial.l l.initial.table l.l l.table l.walked l.from l.b
