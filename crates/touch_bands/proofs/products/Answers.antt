-- `touch_bands::products` meets its contract: the products of an edge with the axes, written out. Assumes nothing.
use mathlib.Core.Path.{refl, sym, ◌∙◌}
use lib.IntN.{pos}
use Rattle.ints.specs.Bound.{arg, negate, v_negate, fits, in3, in_up, in_lit, each_eq, v_in, cons3}
use Rattle.touch.specs.Bands.{three_of, EdgeFits}
use Rattle.touch.proofs.Laws.{edge_in, cross_x, cross_y, cross_z}
use Rattle.touch_bands.proofs.products.Goals as goal
use Rattle.touch_bands.proofs.products.Goals.{After-edge_of-e}

-- the edge has its range
edge_fits : (c : After-edge_of-e) → EdgeFits c.edge_of-e.result
edge_fits c = each_eq c.edge_of-e.ensures (edge_in c.requires.vertex_fits.0 c.requires.vertex_fits.1)

-- the edge has its range
other_edge_fits : (c : goal.After-band_along-with_x) → EdgeFits c.edge_of-e.result
other_edge_fits c = each_eq c.edge_of-e.ensures (edge_in c.requires.vertex_fits.0 c.requires.vertex_fits.1)

pub overflow_sub-y : goal.overflow_sub-y
overflow_sub-y c = fits tt (v_negate (arg tt ((edge_fits (goal.at.overflow_sub-y c).After-edge_of-e).at 1)))

pub band_along-with_x-requires : goal.band_along-with_x-requires
band_along-with_x-requires c = let h = edge_fits (goal.at.band_along-with_x-requires c).After-edge_of-e in record { direction_fits = in3 (in_lit _ (pos 0) tt) (in_up _ tt (v_in (arg tt (h.at 2)))) (in_up _ tt (v_in (negate tt (arg tt (h.at 1))))); triangle_fits = c.requires.triangle_fits }

pub overflow_sub-z : goal.overflow_sub-z
overflow_sub-z c = fits tt (v_negate (arg tt ((other_edge_fits c).at 2)))

pub band_along-with_y-requires : goal.band_along-with_y-requires
band_along-with_y-requires c = let h = other_edge_fits c in record { direction_fits = in3 (in_up _ tt (v_in (negate tt (arg tt (h.at 2))))) (in_lit _ (pos 0) tt) (in_up _ tt (v_in (arg tt (h.at 0)))); triangle_fits = c.requires.triangle_fits }

pub overflow_sub-x : goal.overflow_sub-x
overflow_sub-x c = fits tt (v_negate (arg tt ((edge_fits (goal.at.overflow_sub-x c).After-edge_of-e).at 0)))

pub band_along-with_z-requires : goal.band_along-with_z-requires
band_along-with_z-requires c = let h = edge_fits (goal.at.band_along-with_z-requires c).After-edge_of-e in record { direction_fits = in3 (in_up _ tt (v_in (arg tt (h.at 1)))) (in_up _ tt (v_in (negate tt (arg tt (h.at 0))))) (in_lit _ (pos 0) tt); triangle_fits = c.requires.triangle_fits }

pub returns : goal.returns
returns c =
    let h = edge_fits (goal.at.returns c).After-edge_of-e in
    let e = c.edge_of-e.result in
    let x = arg tt (h.at 0) in
    let y = arg tt (h.at 1) in
    let z = arg tt (h.at 2) in
    let dx = cons3 refl z.is (negate tt y).is ∙ sym (cross_x e) in
    let dy = cons3 (negate tt z).is refl x.is ∙ sym (cross_y e) in
    let dz = cons3 y.is (negate tt x).is refl ∙ sym (cross_z e) in
    let t = c.args.t in
    rw (← c.edge_of-e.ensures)
    ((λ s. record { x = c.band_along-with_x.ensures s; y = c.band_along-with_y.ensures s; z = c.band_along-with_z.ensures s }) ∙ (λ s. three_of (dx s) (dy s) (dz s) t))
