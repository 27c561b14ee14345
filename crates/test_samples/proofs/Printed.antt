-- The row of the table that prints: the records one by one, the grid, the marks, the fill and the text, by computation. Assumes nothing.
use Rattle.std.specs.Prelude.{Ok}
use mathlib.Core.Path.{◌≡◌, refl, sym, subst}
use mathlib.Core.List.{List, ◌∷◌}
use Prim.Native.Nat.{ℕ}
use lib.Ieee.{lt, le, eq, sub, mul, div, of_int, of_bits, of_fields, odd}
use lib.ListN.{replicate}
use Rattle.numbers.specs.Rounding.{ceil_of, nearest_of}
use Rattle.grid.specs.Answers.{Outcome}
use Rattle.grid.specs.Counts.{count}
use Rattle.grid.specs.First.{first_not, some_below}
use Rattle.grid.specs.Grid.{first_ones}
use Rattle.sizing.specs.Points.{bounded}
use Rattle.sizing.specs.Sizing.{spans_to, natural}
use Rattle.touch.specs.Touch.{dot_z, edge, cross, cube_reach, apart, some_apart, touching}
use Rattle.marking_mesh.specs.Mesh.{whole_units, units_at, on_axis, is_candidate}
use Rattle.marking.specs.Marked.{hits, marked_labels}
use Rattle.fill.specs.declared.Mode.TheVariants.{Flood}
use Rattle.order.specs.Order.{join_all}
use Rattle.program_words.specs.Words.{word_at}
use Rattle.program_reader.specs.declared.SizingWay.TheVariants.{Size}
use Rattle.program_reader.specs.Reading.{Reads, Read}
use Rattle.program_text.specs.Text.{decimal_in}
use Rattle.program_summary.specs.declared.Summary.{Summary}
use Rattle.program_summary.specs.Summary.{laid_of, summary_of, Tallied, Mapped, Sums, Summarizes}
use Rattle.test_samples.specs.Table.{Holds, printing, f, axes, laid_with, laid, counts, three_points, two_triangles, records_of_three, printed_of_three}
use Rattle.test_samples.proofs.Filled.{marked_filled}

-- the reading
three_read : Read records_of_three (Ok (record { head = record { way = Size (f 1); mode = Flood }; points = three_points; triangles = two_triangles }))
unfolding word_at of_bits of_fields odd
three_read = Read.headed refl (Reads.point refl (Reads.point refl (Reads.point refl (Reads.triangle refl (Reads.triangle refl (Reads.end refl))))))

-- the marks, and the map
three_marked : marked_labels three_points two_triangles (axes 3 3 3) (laid_with (axes 3 3 3) (f 1) (f 1)).placement ≡ 8 ∷ 8 ∷ replicate 25 0
unfolding first_ones some_below bounded whole_units units_at on_axis is_candidate dot_z edge cross cube_reach apart some_apart touching hits nearest_of lt le eq sub mul div of_int
three_marked = refl

abbrev said : Outcome Summary
said = Ok (summary_of (axes 3 3 3) (counts 2 0) (8 ∷ 8 ∷ replicate 25 6))

three_tallied : Tallied Flood (axes 3 3 3) (8 ∷ 8 ∷ replicate 25 0) said
unfolding first_not
three_tallied = record { labels = 8 ∷ 8 ∷ replicate 25 6; counts = counts 2 0; filled = marked_filled.0; is = refl }

three_laid : laid_of (Size (f 1)) three_points two_triangles ≡ laid (axes 3 3 3) (f 1) (f 1)
unfolding first_not bounded spans_to natural ceil_of lt le eq sub mul div of_int
three_laid = refl

pub three_printed : Holds (printing records_of_three printed_of_three)
unfolding count join_all decimal_in
three_printed = (
  said,
  Summarizes.complete three_read (Sums.laid three_laid (Mapped.few refl (subst (λ (l : List ℕ). Tallied Flood (axes 3 3 3) l said) (sym three_marked) three_tallied))),
  refl,
)
