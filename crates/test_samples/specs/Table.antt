-- 01, Sample maps: the starred samples as one table. A row has what is asked and the answer that 01 gives; where 01 names an extent, the points are the origin and the corner that it spans. Definitions only.
use Rattle.std.specs.Prelude.{◌≡◌, false, List, [], ◌∷◌, ◌++◌, ℕ, ℤ, pos, negsuc, replicate, Float, Ok}
use Rattle.std.specs.Float.{fin}
use Rattle.numbers.specs.Rounding.{nearest_of, units, cell_of}
use Rattle.grid.specs.declared.Axes.{Axes}
use Rattle.grid.specs.declared.Cell.{Cell}
use Rattle.grid.specs.Answers.{Outcome, refuses, Ends}
use Rattle.grid.specs.Counts.{count_of}
use Rattle.grid.specs.Grid.{num}
use Rattle.sizing.specs.Sizing.{Laid, by_size, by_resolution}
use Rattle.marking.specs.Marked.{mark_answer, mark_labels}
use Rattle.list.specs.List.{records_of}
use Rattle.list_tally.specs.Pairs.{triangles_of, triangle_list}
use Rattle.list_pairs.specs.Paired.{pairs_answer}
use Rattle.fill.specs.declared.FillCounts.{FillCounts}
use Rattle.fill.specs.declared.Mode.{Mode}
use Rattle.fill.specs.declared.Mode.TheVariants.{Flood, Cavities}
use Rattle.fill.specs.Modes.{fill_fault, Fills}
use Rattle.program_summary.specs.declared.Summary.{Summary}
use Rattle.program_summary.specs.Summary.{Summarizes}
use Rattle.program.specs.Program.{text}
use Rattle.edits.specs.Edits.{Edit, opening, closing}
use Rattle.edits.specs.History.{Call}
use Rattle.grid.specs.Refusals.{reason_numbered}

pub data Sample : Type 0 where
  at_size : List Float → Float → Outcome Laid → Sample
  at_resolution : List Float → ℕ → Outcome Laid → Sample
  rounding : Float → ℤ → ℤ → Sample
  numbered : Axes → Cell → ℕ → Sample
  marking : List Float → List ℕ → Laid → List ℕ → List ℕ → Sample
  filling : Axes → Mode → List ℕ → FillCounts → List ℕ → ℕ → ℕ → Sample
  editing : Axes → Edit → List ℕ → Outcome ℕ → List ℕ → Sample
  listing : List Float → List ℕ → Laid → List ℕ → ℕ → ℕ → List ℕ → List ℕ → Sample
  printing : List ℕ → List ℕ → Sample

abbrev pub Holds : Sample → Type 0
Holds (at_size ps size o) = by_size ps size ≡ o
Holds (at_resolution ps r o) = by_resolution ps r ≡ o
Holds (rounding t q cell) = (nearest_of units t ≡ Ok q) × (cell_of q ≡ cell)
Holds (numbered r c n) = num r c ≡ n
Holds (marking ps ts l before after) = (mark_answer ps ts l.axes l.placement before ≡ Ok tt) × (mark_labels ps ts l.axes l.placement before ≡ after)
Holds (filling r mode before n after outside inside) =
    Ends (fill_fault r before) before (Fills mode r before) (Ok n) after × (count_of 6 after ≡ outside) × (count_of 7 after ≡ inside)
Holds (editing r e before o after) = Call r e before o after
-- the answer is that of outputs of exactly these lengths
Holds (listing ps ts l labels cells pairs records list) =
    (pairs_answer ps ts l.axes l.placement labels records list ≡ Ok (record { cells = cells; pairs = pairs }))
    × (records_of l.axes labels (triangles_of ps ts l.axes l.placement labels) ≡ records)
    × (triangle_list ps ts l.axes l.placement labels ≡ list)
-- what the program prints of an input
Holds (printing input printed) = (o : Outcome Summary) × Summarizes input o × (text o ≡ printed)

abbrev pub All : List Sample → Type 0
All [] = Unit
All (s ∷ ss) = Holds s × All ss

-- an odd n, and an odd n over 2 ^ (k + 1)
abbrev pub f : ℕ → Float
f n = fin false n (pos 0)

abbrev pub fraction : ℕ → ℕ → Float
fraction n k = fin false n (negsuc k)

-- 2, 4 and 30
abbrev pub two : Float
two = fin false 1 (pos 1)

abbrev pub four : Float
four = fin false 1 (pos 2)

abbrev pub thirty : Float
thirty = fin false 15 (pos 1)

-- the origin and one corner
abbrev pub from_origin : Float → Float → Float → List Float
from_origin x y z = f 0 ∷ f 0 ∷ f 0 ∷ x ∷ y ∷ z ∷ []

abbrev pub axes : ℕ → ℕ → ℕ → Axes
axes a b c = record { r0 = a; r1 = b; r2 = c }

abbrev pub laid_with : Axes → Float → Float → Laid
laid_with a scale reciprocal = record { axes = a; placement = record { x = f 0; y = f 0; z = f 0; scale = scale; reciprocal = reciprocal } }

abbrev pub laid : Axes → Float → Float → Outcome Laid
laid a scale reciprocal = Ok (laid_with a scale reciprocal)

-- the points (0, 0, 0), (2, 2, 2) and (0.5, 0, 0); the triangles (2, 2, 2) and (0, 0, 0)
abbrev pub three_points : List Float
three_points = f 0 ∷ f 0 ∷ f 0 ∷ two ∷ two ∷ two ∷ fraction 1 0 ∷ f 0 ∷ f 0 ∷ []

abbrev pub two_triangles : List ℕ
two_triangles = 2 ∷ 2 ∷ 2 ∷ 0 ∷ 0 ∷ 0 ∷ []

-- the records of two surface cells: cell, 1 for surface, range
abbrev pub two_records : List ℕ
two_records = 0 ∷ 0 ∷ 0 ∷ 1 ∷ 0 ∷ 2 ∷ 1 ∷ 0 ∷ 0 ∷ 1 ∷ 2 ∷ 3 ∷ []

-- the same as a program's input, in bytes: `Vh` with way 0, mode 1 and size 1; three `Vp`; two `Vt`; `Vz`. 0.5, 1 and 2 are the f32 0x3f000000, 0x3f800000 and 0x40000000
abbrev pub zero4 : List ℕ
zero4 = 0 ∷ 0 ∷ 0 ∷ 0 ∷ []

abbrev pub two4 : List ℕ
two4 = 0 ∷ 0 ∷ 0 ∷ 64 ∷ []

abbrev pub records_of_three : List ℕ
records_of_three =
    (86 ∷ 104 ∷ 0 ∷ 1 ∷ 0 ∷ 0 ∷ 128 ∷ 63 ∷ [])
    ++ (86 ∷ 112 ∷ [] ++ zero4 ++ zero4 ++ zero4)
    ++ (86 ∷ 112 ∷ [] ++ two4 ++ two4 ++ two4)
    ++ (86 ∷ 112 ∷ 0 ∷ 0 ∷ 0 ∷ 63 ∷ [] ++ zero4 ++ zero4)
    ++ (86 ∷ 116 ∷ 2 ∷ 0 ∷ 0 ∷ 0 ∷ 2 ∷ 0 ∷ 0 ∷ 0 ∷ 2 ∷ 0 ∷ 0 ∷ 0 ∷ [])
    ++ (86 ∷ 116 ∷ [] ++ zero4 ++ zero4 ++ zero4)
    ++ (86 ∷ 122 ∷ [])

-- `cells 3 3 3`, `outside 25`, `inside 0`, `surface 2`, `left 0`, `scans 2`, a line each, in ASCII
abbrev pub printed_of_three : List ℕ
printed_of_three =
    (99 ∷ 101 ∷ 108 ∷ 108 ∷ 115 ∷ 32 ∷ 51 ∷ 32 ∷ 51 ∷ 32 ∷ 51 ∷ 10 ∷ [])
    ++ (111 ∷ 117 ∷ 116 ∷ 115 ∷ 105 ∷ 100 ∷ 101 ∷ 32 ∷ 50 ∷ 53 ∷ 10 ∷ [])
    ++ (105 ∷ 110 ∷ 115 ∷ 105 ∷ 100 ∷ 101 ∷ 32 ∷ 48 ∷ 10 ∷ [])
    ++ (115 ∷ 117 ∷ 114 ∷ 102 ∷ 97 ∷ 99 ∷ 101 ∷ 32 ∷ 50 ∷ 10 ∷ [])
    ++ (108 ∷ 101 ∷ 102 ∷ 116 ∷ 32 ∷ 48 ∷ 10 ∷ [])
    ++ (115 ∷ 99 ∷ 97 ∷ 110 ∷ 115 ∷ 32 ∷ 50 ∷ 10 ∷ [])

-- scans, and cells left
abbrev pub counts : ℕ → ℕ → FillCounts
counts scans left = record { scans = scans; left = left }

-- 3 by 3 by 3: all but the centre have one label, the centre another
abbrev pub box : ℕ → ℕ → List ℕ
box wall centre = replicate 13 wall ++ centre ∷ replicate 13 wall

-- 5 by 5 by 5: the border cells, the 26 cells about the centre, and the row through the centre along i
abbrev pub around : ℕ → ℕ → List ℕ → List ℕ
around border wall centreRow = face ++ full ++ middle ++ full ++ face
  where
    face : List ℕ
    face = replicate 25 border

    row : List ℕ
    row = border ∷ wall ∷ wall ∷ wall ∷ border ∷ []

    full : List ℕ
    full = replicate 5 border ++ row ++ row ++ row ++ replicate 5 border

    middle : List ℕ
    middle = replicate 5 border ++ row ++ centreRow ++ row ++ replicate 5 border

abbrev pub cube : ℕ → ℕ → ℕ → List ℕ
cube border wall centre = around border wall (border ∷ wall ∷ centre ∷ wall ∷ border ∷ [])

-- that map with (1, 2, 2) and the centre Outside
abbrev pub hatch_open : List ℕ
hatch_open = around 6 8 (6 ∷ 6 ∷ 6 ∷ 8 ∷ 6 ∷ [])

abbrev pub cell : ℕ → ℕ → ℕ → Cell
cell i j k = record { i = i; j = j; k = k }

-- "Extent 30: size 1.5 gives 21 cells, size 15 gives 3. Extent 0 gives 3." 1 / 1.5 is 11184811 / 2 ^ 24 and 1 / 15 is 8947849 / 2 ^ 27, each rounded once
-- "R = 10, d = (4, 2, 1): axes 10, 7, 4, scale 4/9 rounded. R = 4, d = (2, 2, 1): 4, 6, 4." 4 / 9 is 14913081 / 2 ^ 25, of which 1 over is 9 / 4; 2 / 3 is 11184811 / 2 ^ 24
-- "t = 0.25 is q 64, cell 0. t = 0.5 is q 128, cell 1."
-- "Axes 3, 3, 3: cell (1, 2, 0) is number 7."
-- "Points (0,0,0), (2,2,2), (0.5,0,0); triangles (2,2,2), (0,0,0); size 1": of the list that 01 gives, the cells that are surface, (0,0,0) and (1,0,0), which have the numbers 0 and 1
-- that map filled: `outside 25`, `inside 0`, `left 0`, `scans 2`
-- and listed: "The list is whole: (0,0,0) surface 0..2; (1,0,0) surface 2..3; triangles 0, 1, 0."
-- and printed: "Output whole, one line each: `cells 3 3 3`, `outside 25`, `inside 0`, `surface 2`, `left 0`, `scans 2`."
-- "3 by 3 by 3, all but the centre marked: flood makes the centre 7 in 1 scan; cavities leave it 0, left 1, 2 scans."
-- "5 by 5 by 5, the 26 cells about the centre marked: 98 Outside, 1 Inside, 2 scans; with cavities the same labels, 5 scans."
-- "That map: open (1,2,2), 2 changed; close it, 2 changed and the map is back. Opening the centre: 13."
abbrev pub table : List Sample
table =
    at_size (from_origin thirty (f 0) (f 0)) (fraction 3 0) (laid (axes 21 3 3) (fraction 3 0) (fraction 11184811 23))
    ∷ at_size (from_origin thirty (f 0) (f 0)) (f 15) (laid (axes 3 3 3) (f 15) (fraction 8947849 26))
    ∷ at_resolution (from_origin four two (f 1)) 10 (laid (axes 10 7 4) (fraction 14913081 24) (fraction 9 1))
    ∷ at_resolution (from_origin two two (f 1)) 4 (laid (axes 4 6 4) (fraction 11184811 23) (fraction 3 0))
    ∷ rounding (fraction 1 1) (pos 64) (pos 0)
    ∷ rounding (fraction 1 0) (pos 128) (pos 1)
    ∷ numbered (axes 3 3 3) (cell 1 2 0) 7
    ∷ at_size three_points (f 1) (laid (axes 3 3 3) (f 1) (f 1))
    ∷ marking three_points two_triangles (laid_with (axes 3 3 3) (f 1) (f 1)) (replicate 27 7) (8 ∷ 8 ∷ replicate 25 0)
    ∷ filling (axes 3 3 3) Flood (8 ∷ 8 ∷ replicate 25 0) (counts 2 0) (8 ∷ 8 ∷ replicate 25 6) 25 0
    ∷ listing three_points two_triangles (laid_with (axes 3 3 3) (f 1) (f 1)) (8 ∷ 8 ∷ replicate 25 6) 2 3 two_records (0 ∷ 1 ∷ 0 ∷ [])
    ∷ printing records_of_three printed_of_three
    ∷ filling (axes 3 3 3) Flood (box 8 0) (counts 1 0) (box 8 7) 0 1
    ∷ filling (axes 3 3 3) Cavities (box 8 0) (counts 2 1) (box 8 0) 0 0
    ∷ filling (axes 5 5 5) Flood (cube 0 8 0) (counts 2 0) (cube 6 8 7) 98 1
    ∷ filling (axes 5 5 5) Cavities (cube 0 8 0) (counts 5 0) (cube 6 8 7) 98 1
    ∷ editing (axes 5 5 5) (opening (cell 1 2 2)) (cube 6 8 7) (Ok 2) hatch_open
    ∷ editing (axes 5 5 5) (closing (cell 1 2 2)) hatch_open (Ok 2) (cube 6 8 7)
    ∷ editing (axes 5 5 5) (opening (cell 2 2 2)) (cube 6 8 7) (refuses (reason_numbered 13) 0) (cube 6 8 7)
    ∷ []
