-- `fill_scans::scan_block` meets its contract: a block of which no group is raised changes nothing (`slabs_low`), and what was set before its turn changes nothing in the end (`EarlySame`). Assumes nothing.
use mathlib.Core.Path.{◌∙◌}
use native.Mathlib.Omega.{arith}
use Rattle.grid.proofs.Cells.{sheet_kept}
use Rattle.fill_scans.proofs.Rounds.{slabs_low}
use Rattle.fill_scans.proofs.scan_block.Goals as goal

pub returns-then-not-some_raised : goal.returns-then-not-some_raised
returns-then-not-some_raised c = record { result_after = slabs_low _ _ _ _ _ _ _ c.requires.sheet.0 c.requires.sheet.2 c.requires.blocked.0 (c.some_raised.ensures c.if-not-some_raised.true); upper_bound = (omega arith, c.requires.sheet.2) }

pub returns-then-not-some_raised-2 : goal.returns-then-not-some_raised-2
returns-then-not-some_raised-2 c = record { result_after = slabs_low _ _ _ _ _ _ _ (sheet_kept c.args.r c.args.l.now _ c.set_early-walked.auto.l c.requires.sheet.0) c.set_early-walked.ensures.upper_bound.1 c.requires.blocked.0 (c.some_raised-2.ensures c.if-not-some_raised-2.true) ∙ c.set_early-walked.ensures.early_same.same; upper_bound = (omega (arith, c.set_early-walked.ensures.upper_bound.0), c.set_early-walked.ensures.upper_bound.1) }
