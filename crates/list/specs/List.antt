-- 01, List, classes, planes, boxes: the cell list, with and without pairs. Definitions only.
use Rattle.std.specs.Prelude.{Bool, cond, ◌||◌, List, [], ◌∷◌, ◌++◌, ℕ, ◌+◌, ◌*◌, ◌≤◌, eqb, length, Ok}
use Rattle.grid.specs.declared.Axes.{Axes}
use Rattle.grid.specs.declared.Cell.{Cell}
use Rattle.grid.specs.Answers.{Outcome, ◌and_then◌, lent_after, Checked}
use Rattle.grid.specs.Grid.{at}
use Rattle.grid.specs.Checks.{map_fault}
use Rattle.grid.specs.Labels.{INSIDE, SURFACE}
use Rattle.order.specs.Order.{in_order, keep, known_labels}
use Rattle.order.specs.Output.{room_fault, over}
use Rattle.list_record.specs.Record.{width, numbers_of}
use Rattle.list.specs.declared.ListCounts.{ListCounts}

-- "List: cells 7 and 8, i outermost, k innermost; other labels are omitted"
abbrev pub is_listed : ℕ → Bool
is_listed v = eqb v INSIDE || eqb v SURFACE

abbrev pub listed : Axes → List ℕ → List Cell
listed r l = keep (λ c. is_listed (at r l c)) (in_order r)

-- the surface flag: 1 for a cell 8
abbrev pub flag_of : ℕ → ℕ
flag_of v = cond (eqb v SURFACE) 1 0

-- The records of a list of cells, where each cell has some triangles. A range starts at the running place s and has room for the cell's triangles; the next starts where it ends: "ranges follow without gaps". A cell without triangles has "the empty range at the running place"
unfoldable pub records_from : Axes → List ℕ → (Cell → List ℕ) → ℕ → List Cell → List ℕ
records_from r l triangles_of s [] = []
records_from r l triangles_of s (c ∷ cs) =
    numbers_of (record { cell = c; surface = flag_of (at r l c); start = s; end = s + length (triangles_of c) })
    ++ records_from r l triangles_of (s + length (triangles_of c)) cs

abbrev pub records_of : Axes → List ℕ → (Cell → List ℕ) → List ℕ
records_of r l triangles_of = records_from r l triangles_of 0 (listed r l)

-- "Without pairs every range is 0..0": no cell has triangles
abbrev pub plain_records : Axes → List ℕ → List ℕ
plain_records r l = records_of r l (λ c. [])

-- ---- the same of a part of the grid, which its loops write: of some cells those that are listed, and their records

abbrev pub listed_in : Axes → List ℕ → List Cell → List Cell
listed_in r l cs = keep (λ c. is_listed (at r l c)) cs

abbrev pub plain_in : Axes → List ℕ → List Cell → List ℕ
plain_in r l cs = records_from r l (λ c. []) 0 (listed_in r l cs)

-- room for them, from record p on
pub record RoomFrom (p : ℕ) (cs : List Cell) (o : List ℕ) : Type 0 where
  pub room : (p + length cs) * width ≤ length o
  pub few : p + length cs ≤ 16777216

-- ---- the whole call without pairs: 8, 9, 11 and 14

abbrev pub cells_fault : List ℕ → Axes → ℕ → Checked
cells_fault l r len = map_fault known_labels r l and_then room_fault len (length (listed r l) * width)

abbrev pub cells_answer : List ℕ → Axes → List ℕ → Outcome ListCounts
cells_answer l r o = cells_fault l r (length o) and_then Ok (record { cells = length (listed r l); pairs = 0 })

abbrev pub cells_buffer : List ℕ → Axes → List ℕ → List ℕ
cells_buffer l r o = lent_after (cells_fault l r (length o)) o (over (plain_records r l) o)
