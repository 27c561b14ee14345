-- `planes::goes_to` meets its contract: the sum is rounded, its side is exact. Assumes nothing.
use mathlib.Core.Path.{sym, ap, subst, ◌∙◌}
use lib.Dec.{T}
use lib.Ieee.{binary32, fits}
use Rattle.planes.specs.declared.Side.{Side}
use Rattle.planes.specs.Split.{goes_to}
use Rattle.planes.proofs.Sums.{to_first, to_second}
use Rattle.planes.proofs.goes_to.Goals as goal
use Rattle.planes.proofs.goes_to.Goals.{Start}

d_held : (c : Start) → T (fits binary32 c.args.d)
d_held c = subst T (sym c.well_formed.1.1.0.1) tt

-- what owning an `f32` tells: the format holds it
p_held : (c : Start) → T (fits binary32 c.args.p)
p_held c = subst T (sym c.well_formed.1.0.1) tt

pub returns-in-First : goal.returns-in-First
returns-in-First c =
    let a = c.args in
    to_first a.p a.d c.requires (p_held (goal.at.returns-in-First c).Start) (d_held (goal.at.returns-in-First c).Start) ∙ ap (λ (s : Side). goes_to s a.p a.d) (sym c.in-First.is)

pub returns-in-Second : goal.returns-in-Second
returns-in-Second c =
    let a = c.args in
    to_second a.p a.d c.requires (p_held (goal.at.returns-in-Second c).Start) (d_held (goal.at.returns-in-Second c).Start) ∙ ap (λ (s : Side). goes_to s a.p a.d) (sym c.in-Second.is)
