-- `edits_settle::relabel` meets its contract: a trip or a pass. Assumes nothing.
use mathlib.Core.Path.{refl}
use Rattle.edits_settle.proofs.Settlings.{relabelled_trip, relabelled_pass}
use Rattle.edits_settle.proofs.relabel.Goals as goal

pub returns-then-count-len : goal.returns-then-count-len
returns-then-count-len c = relabelled_trip _ _ _ _ _ c.requires.sheet c.requires.in_grid.0 c.requires.in_grid.1 c.requires.d_bound.0 c.requires.d_bound.1 c.requires.d_bound.2 _ _ c.reach.ensures

pub returns : goal.returns
returns c = relabelled_pass _ _ _ _ _ c.requires.sheet c.requires.in_grid.0 c.requires.in_grid.1 c.requires.d_bound.0 c.requires.d_bound.1 c.requires.d_bound.2 _ _ refl c.replace.ensures
