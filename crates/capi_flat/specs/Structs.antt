-- The structs of the C boundary in 01's terms. Definitions only.
use Rattle.std.specs.Prelude.{false, cond, List, ℕ, ◌-◌, pos, Float}
use Rattle.std.specs.Float.{fin}
use Rattle.grid.specs.declared.Axes as grid-axes
use Rattle.grid.specs.declared.Cell as grid-cell
use Rattle.grid.specs.declared.Placement as grid-placement
use Rattle.sizing.specs.Sizing.{Laid}
use Rattle.fill.specs.declared.FillCounts as fill-counts
use Rattle.list.specs.declared.ListCounts as list_counts
use Rattle.list_record.specs.Record.{bad_range}
use Rattle.planes.specs.declared.Planes.{Planes}
use Rattle.planes.specs.declared.Sides.{Sides}
use Rattle.program_summary.specs.declared.Summary.{Summary}
use Rattle.capi_flat.specs.declared.Axes.{Axes}
use Rattle.capi_flat.specs.declared.Cell.{Cell}
use Rattle.capi_flat.specs.declared.Placement.{Placement}
use Rattle.capi_flat.specs.declared.Verdict.{Verdict}
use Rattle.capi_flat.specs.declared.Sized.{Sized}
use Rattle.capi_flat.specs.declared.Filled.{Filled}
use Rattle.capi_flat.specs.declared.Counted.{Counted}
use Rattle.capi_flat.specs.declared.Listed.{Listed}
use Rattle.capi_flat.specs.declared.Planned.{Planned}
use Rattle.capi_flat.specs.declared.Parted.{Parted}
use Rattle.capi_flat.specs.declared.Slice.{Slice}
use Rattle.capi_flat.specs.declared.Summarized.{Summarized}
use Rattle.capi_flat.specs.Flat.{Flat}

-- ---- what is lent

abbrev pub to_axes : Axes → grid-axes.Axes
to_axes r = record { r0 = r.r0; r1 = r.r1; r2 = r.r2 }

abbrev pub to_cell : Cell → grid-cell.Cell
to_cell c = record { i = c.i; j = c.j; k = c.k }

abbrev pub to_placement : Placement → grid-placement.Placement
to_placement p = record { x = p.x; y = p.y; z = p.z; scale = p.scale; reciprocal = p.reciprocal }

-- ---- what is answered: each struct's number, place and values

abbrev pub verdict : Verdict → Flat Unit
verdict v = record { number = v.number; place = v.place; value = tt }

abbrev pub sized : Sized → Flat Laid
sized s = record { number = s.number; place = s.place; value = record { axes = to_axes s.axes; placement = to_placement s.placement } }

abbrev pub filled : Filled → Flat fill-counts.FillCounts
filled f = record { number = f.number; place = f.place; value = record { scans = f.scans; left = f.left } }

abbrev pub counted : Counted → Flat ℕ
counted n = record { number = n.number; place = n.place; value = n.count }

abbrev pub listing : Listed → Flat list_counts.ListCounts
listing n = record { number = n.number; place = n.place; value = record { cells = n.cells; pairs = n.pairs } }

abbrev pub planned : Planned → Flat Planes
planned p = record { number = p.number; place = p.place; value = record { first = p.first; count = p.count } }

abbrev pub parted : Parted → Flat Sides
parted p = record { number = p.number; place = p.place; value = record { first = p.first; second = p.second } }

abbrev pub summarized : Summarized → Flat Summary
summarized n = record {
  number = n.number;
  place = n.place;
  value = record { axes = to_axes n.axes; outside = n.outside; inside = n.inside; surface = n.surface; left = n.left; scans = n.scans };
}

-- ---- the values of a refusal: 0 each

abbrev pub nought : Float
nought = fin false 0 (pos 0)

abbrev pub no_grid : Laid
no_grid = record { axes = record { r0 = 0; r1 = 0; r2 = 0 }; placement = record { x = nought; y = nought; z = nought; scale = nought; reciprocal = nought } }

abbrev pub no_fill : fill-counts.FillCounts
no_fill = record { scans = 0; left = 0 }

abbrev pub no_list : list_counts.ListCounts
no_list = record { cells = 0; pairs = 0 }

abbrev pub no_planes : Planes
no_planes = record { first = 0; count = 0 }

abbrev pub no_sides : Sides
no_sides = record { first = 0; second = 0 }

abbrev pub no_summary : Summary
no_summary = record { axes = record { r0 = 0; r1 = 0; r2 = 0 }; outside = 0; inside = 0; surface = 0; left = 0; scans = 0 }

-- ---- a part of a list

-- "handed back as the part of the caller's list; for a bad range that part is empty": where it begins in that list, and how long it is
abbrev pub slice_at : List ℕ → ℕ → ℕ → Slice
slice_at list start end = cond (bad_range list start end) (record { start = 0; length = 0 }) (record { start = start; length = end - start })
