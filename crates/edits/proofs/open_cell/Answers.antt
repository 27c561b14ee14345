-- `edits::open_cell` meets its contract: the checks, then the edit. Assumes nothing.
use Rattle.std.specs.Prelude.{Ok}
use mathlib.Core.Path.{sym, subst, ◌∙◌}
use Rattle.grid.specs.Answers.{Ends, Checked}
use Rattle.edits.specs.Edits.{opening, Edited}
use Rattle.edits.proofs.Calls.{edited_flooded}
use Rattle.edits.proofs.open_cell.Goals as goal

pub returns : goal.returns
returns c = let a = c.args in let fine = sym c.edit_fault.ensures ∙ c.in_ok-edit_fault.was in record { ends = subst (λ (x : Checked). Ends x a.labels.now (Edited a.r a.labels.now (opening a.c)) (Ok c.open_surface.result) c.open_surface.new.l) (sym fine) c.open_surface.ensures; flooded = edited_flooded a.r (opening a.c) a.labels.now c.open_surface.result c.open_surface.new.l fine c.open_surface.ensures }
