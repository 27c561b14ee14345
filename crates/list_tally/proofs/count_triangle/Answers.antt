-- `list_tally::count_triangle` meets its contract: the surface cells of its sweep. Assumes nothing.
use mathlib.Core.Path.{◌∙◌}
use Rattle.list_tally.proofs.Sizes.{surface_same}
use Rattle.list_tally.proofs.count_triangle.Goals as goal

pub returns : goal.returns
returns c = let a = c.args in c.count_block.ensures ∙ surface_same a.r a.labels.now _ _ c.sweep_of-s.ensures.cells
