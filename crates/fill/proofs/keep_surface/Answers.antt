-- `fill::keep_surface` meets its contract: of labels 0 and 8, those up to 7 are those that are no 8. Assumes nothing.
use mathlib.Core.Path.{◌≡◌, refl, sym, ap, ◌∙◌}
use mathlib.Core.List.{map}
use native.Mathlib.Omega.{arith}
use Rattle.fill.specs.Phases.{surface_only}
use Rattle.grid.specs.Passes.{becomes}
use Rattle.fill.specs.Modes.{left}
use Rattle.grid.proofs.Passes.{within_map}
use Rattle.fill.proofs.Meaning.{map_marks, surface_only_left}
use Rattle.fill.proofs.keep_surface.Goals as goal

pub returns : goal.returns
returns c =
    let l = c.args.labels.now in
    let e : c.replace.new.labels ≡ map surface_only l = within_map (becomes 0 7 6) _ l _ (omega arith) c.replace.ensures ∙ map_marks (becomes 0 7 6) surface_only l c.requires.1 refl refl in
    record { scanned = (e, refl); counted = sym (ap left e ∙ surface_only_left c.args.r l c.requires.0.size c.requires.1) }
