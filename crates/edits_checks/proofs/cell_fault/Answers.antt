-- `edits_checks::cell_fault` meets its contract: 12, then 13. Assumes nothing.
use mathlib.Core.Path.{sym, ◌∙◌}
use native.Mathlib.Omega.{arith}
use Rattle.grid.proofs.Cells.{num_lt}
use Rattle.edits_checks.proofs.Laws.{in_grid_lem}
use Rattle.edits_checks.proofs.cell_fault.Goals as goal

pub bounds-labels-n : goal.bounds-labels-n
bounds-labels-n c = omega (arith, c.number-n.ensures, num_lt c.args.r c.args.c ((in_grid_lem _ _).0 (sym c.in_grid.ensures ∙ c.if-in_grid.true)), c.requires.size)
