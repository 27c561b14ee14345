-- `edits_settle::restore` meets its contract. Assumes nothing.
use mathlib.Core.Path.{subst}
use Rattle.grid.specs.declared.Cell.{Cell}
use Rattle.edits_settle.specs.Closing.{Relabels}
use Rattle.edits_settle.proofs.Restorings.{restored}
use Rattle.edits_settle.proofs.restore.Goals as goal

pub returns-then-a-d : goal.returns-then-a-d
returns-then-a-d c = let a = c.args in restored _ _ c.requires.in_grid.0 _ c.requires.d_bound _ c.requires.sheet _ (subst (λ (x : Cell). Relabels a.r x a.d 6 a.l.now c.relabel.new.l) c.neighbour-q.ensures c.relabel.ensures)
