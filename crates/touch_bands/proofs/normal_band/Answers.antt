-- `touch_bands::normal_band` meets its contract. Assumes nothing.
use Rattle.ints.specs.Bound.{each_eq}
use Rattle.touch.proofs.Laws.{edge_in, cross_in}
use Rattle.touch_bands.proofs.normal_band.Goals as goal

pub cross_of-requires : goal.cross_of-requires
cross_of-requires c = record { edge_fits = each_eq c.edge_of-e.ensures (edge_in (c.requires.at _) (c.requires.at _)); other_edge_fits = each_eq c.edge_of-f.ensures (edge_in (c.requires.at _) (c.requires.at _)) }

pub band_along-requires : goal.band_along-requires
band_along-requires c = let e = each_eq c.edge_of-e.ensures (edge_in (c.requires.at _) (c.requires.at _)) in
    let f = each_eq c.edge_of-f.ensures (edge_in (c.requires.at _) (c.requires.at _)) in record { direction_fits = each_eq c.cross_of.ensures (cross_in e f); triangle_fits = c.requires }
