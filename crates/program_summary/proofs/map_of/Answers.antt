-- `program_summary::map_of` meets its contract: the grid, and then the map. Assumes nothing.
use Rattle.std.proofs.lemmas.Result.{err_from_is_err_and}
use mathlib.Core.Path.{sym, ◌∙◌}
use Rattle.program_summary.specs.Summary.{Sums}
use Rattle.program_summary.proofs.Laws.{own_mesh}
use Rattle.program_summary.proofs.map_of.Goals as goal

pub map_on-requires : goal.map_on-requires
map_on-requires c = let w = own_mesh c.args.head.way c.args.ps.now c.args.ts.now _ (sym c.laid_of.ensures ∙ c.in_ok-laid.was) c.requires in record { sound = w.0; grid_fine = w.1 }

pub returns-in_err-laid : goal.returns-in_err-laid
returns-in_err-laid c =
    let p = err_from_is_err_and c.from_residual.result c.from_residual.ensures.1 in
    rw (p.1, p.2) (Sums.refused (sym c.laid_of.ensures ∙ c.in_err-laid.was))

pub returns : goal.returns
returns c = Sums.laid (sym c.laid_of.ensures ∙ c.in_ok-laid.was) c.map_on.ensures
