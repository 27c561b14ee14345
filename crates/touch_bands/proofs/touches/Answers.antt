-- `touch_bands::touches` meets its contract: what the thirteen bands leave is what the triangle touches. Assumes nothing.
use mathlib.Core.Path.{sym, ap, subst, ◌∙◌}
use Rattle.touch.specs.declared.Bands.{Bands}
use Rattle.touch.specs.Bands.{kept_all, BandsFit}
use Rattle.touch.proofs.Laws.{bands_fit, bands_touch}
use Rattle.touch_bands.proofs.touches.Goals as goal

pub keeps_all-requires : goal.keeps_all-requires
keeps_all-requires c = record { bands_fit = subst BandsFit (sym c.bands_of.ensures) (bands_fit c.args.t c.requires.triangle_fits); cell_fits = c.requires.cell_fits }

pub returns : goal.returns
returns c = c.keeps_all.ensures ∙ ap (λ (s : Bands). kept_all s c.args.c) c.bands_of.ensures ∙ bands_touch c.args.t c.args.c
