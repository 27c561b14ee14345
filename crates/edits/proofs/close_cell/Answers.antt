-- `edits::close_cell` meets its contract: the checks, then the edit. Assumes nothing.
use Rattle.std.specs.Prelude.{Ok}
use mathlib.Core.Bool.{false}
use mathlib.Core.Path.{sym, subst, ◌∙◌}
use Rattle.grid.specs.Answers.{Ends, Checked}
use Rattle.edits.specs.Edits.{closing, Edited}
use Rattle.edits.proofs.Faults.{edit_sound, no_surface}
use Rattle.edits.proofs.Calls.{edited_flooded}
use Rattle.edits.proofs.close_cell.Goals as goal

pub close_open-requires : goal.close_open-requires
close_open-requires c = let a = c.args in let e = sym c.edit_fault.ensures ∙ c.in_ok-edit_fault.was in let s = edit_sound a.r a.labels.now a.c false e in record { sheet = (s.sheet, s.map); in_grid = (s.within, (no_surface _).0 s.kind) }

pub returns : goal.returns
returns c = let a = c.args in let fine = sym c.edit_fault.ensures ∙ c.in_ok-edit_fault.was in record { ends = subst (λ (x : Checked). Ends x a.labels.now (Edited a.r a.labels.now (closing a.c)) (Ok c.close_open.result) c.close_open.new.l) (sym fine) c.close_open.ensures; flooded = edited_flooded a.r (closing a.c) a.labels.now c.close_open.result c.close_open.new.l fine c.close_open.ensures }
