-- The one claim of the table: every row holds, by computation of the definitions that the contracts cite. Assumes nothing.
use mathlib.Core.Path.{refl}
use lib.Ieee.{lt, le, eq, sub, mul, div, of_int}
use Rattle.numbers.specs.Rounding.{ceil_of, trunc_of, nearest_of}
use Rattle.grid.specs.First.{first_not, some_below}
use Rattle.grid.specs.Grid.{first_ones}
use Rattle.sizing.specs.Points.{bounded}
use Rattle.sizing.specs.Sizing.{spans_to, natural}
use Rattle.touch.specs.Touch.{dot_z, edge, cross, cube_reach, apart, some_apart, touching}
use Rattle.marking_mesh.specs.Mesh.{whole_units, units_at, on_axis, is_candidate}
use Rattle.marking.specs.Marked.{hits}
use Rattle.order.specs.Order.{row, rows, slabs, keep, chosen, join_all}
use Rattle.list_record.specs.Record.{numbers_of}
use Rattle.list.specs.List.{records_from}
use Rattle.test_samples.specs.Table.{All, table}
use Rattle.test_samples.proofs.Filled.{marked_filled, box_flood, box_cavities, cube_flood, cube_cavities}
use Rattle.test_samples.proofs.Printed.{three_printed}
use Rattle.test_samples.proofs.Hatch.{hatch_opened, hatch_closed, centre_refused}

pub samples : All table
unfolding first_not some_below first_ones bounded spans_to natural ceil_of trunc_of nearest_of whole_units units_at on_axis is_candidate dot_z edge cross cube_reach apart some_apart touching hits row rows slabs keep chosen join_all numbers_of records_from lt le eq sub mul div of_int
samples = (refl, (refl, (refl, (refl, ((refl, refl), ((refl, refl), (refl, (refl, ((refl, refl), (marked_filled, ((refl, refl, refl), (three_printed, (box_flood, (box_cavities, (cube_flood, (cube_cavities, (hatch_opened, (hatch_closed, (centre_refused, tt)))))))))))))))))))
