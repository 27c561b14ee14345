-- `marking_mesh::units_at` meets its contract. Assumes nothing.
use Rattle.std.specs.Prelude.{Ok, Err}
use Rattle.std.specs.Result.{result_unwrap_or}
use mathlib.Core.Path.{◌≡◌, refl, ap, ◌∙◌}
use mir.Facts.{to_z-of_z}
use mir.Syntax.{w64}
use mir.Val.{to_z, of_z}
use lib.IntN.{ℤ, negsuc}
use Rattle.numbers.specs.Rounding.{Whole}
use Rattle.marking_mesh.specs.Mesh.{whole_units, units_at}
use Rattle.marking_mesh.proofs.Laws.{parts_fits}
use Rattle.marking_mesh.proofs.units_at.Goals as goal

whole_or : (w : Whole) → result_unwrap_or w (negsuc 255) ≡ whole_units w
unfolding whole_units
whole_or (Ok q) = refl
whole_or (Err e) = refl

pub returns : goal.returns
unfolding units_at
returns c =
    let a = c.args in
    let is = c.unwrap_or.ensures ∙ ap (λ (w : Whole). result_unwrap_or w (negsuc 255)) c.to_units.ensures ∙ whole_or _ in
    ap (λ (z : ℤ). to_z w64 (of_z w64 z)) is ∙ to_z-of_z (parts_fits a.p a.origin a.reciprocal)
