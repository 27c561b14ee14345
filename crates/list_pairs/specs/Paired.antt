-- 01, List: the whole call with pairs. Definitions only.
use Rattle.std.specs.Prelude.{List, ℕ, ◌*◌, ltb, length, Float, Ok}
use Rattle.grid.specs.declared.Axes.{Axes}
use Rattle.grid.specs.declared.Placement.{Placement}
use Rattle.grid.specs.Answers.{Outcome, fault_if, ◌and_then◌, lent_after, Checked}
use Rattle.grid.specs.Checks.{labels_fault}
use Rattle.marking_mesh.specs.Faults.{mesh_fault}
use Rattle.order.specs.Order.{known_labels}
use Rattle.order.specs.Output.{room_fault, over}
use Rattle.list_record.specs.Record.{width}
use Rattle.list.specs.declared.ListCounts.{ListCounts}
use Rattle.list.specs.List.{listed, records_of}
use Rattle.list_tally.specs.Pairs.{triangles_of, triangle_list, pair_count}
use Rattle.grid.specs.declared.Reason.TheVariants.{NoRoom}

-- 1 to 5 and 8 to 11
abbrev pub list_input_fault : List Float → List ℕ → Axes → Placement → List ℕ → Checked
list_input_fault ps ts r p l = mesh_fault ps ts r p (length l) and_then labels_fault known_labels l

-- "14: an output buffer is shorter than the answer, or more than 4,294,967,295 pairs"
abbrev pub pairs_many_fault : ℕ → Checked
pairs_many_fault pairs = fault_if (ltb 4294967295 pairs) NoRoom 0 (Ok tt)

abbrev pub rooms_fault : ℕ → ℕ → ℕ → ℕ → Checked
rooms_fault cells pairs m n = room_fault m (cells * width) and_then pairs_many_fault pairs and_then room_fault n pairs

-- all of them, for outputs of m and n numbers
abbrev pub pairs_fault : List Float → List ℕ → Axes → Placement → List ℕ → ℕ → ℕ → Checked
pairs_fault ps ts r p l m n = list_input_fault ps ts r p l and_then rooms_fault (length (listed r l)) (pair_count ps ts r p l) m n

-- how many cells and pairs are listed
abbrev pub counts_of : List Float → List ℕ → Axes → Placement → List ℕ → ListCounts
counts_of ps ts r p l = record { cells = length (listed r l); pairs = pair_count ps ts r p l }

-- the answer, and the two outputs: o of records, q of triangle numbers
abbrev pub pairs_answer : List Float → List ℕ → Axes → Placement → List ℕ → List ℕ → List ℕ → Outcome ListCounts
pairs_answer ps ts r p l o q = pairs_fault ps ts r p l (length o) (length q) and_then Ok (counts_of ps ts r p l)

abbrev pub records_buffer : List Float → List ℕ → Axes → Placement → List ℕ → List ℕ → List ℕ → List ℕ
records_buffer ps ts r p l o q = lent_after (pairs_fault ps ts r p l (length o) (length q)) o (over (records_of r l (triangles_of ps ts r p l)) o)

abbrev pub triangles_buffer : List Float → List ℕ → Axes → Placement → List ℕ → List ℕ → List ℕ → List ℕ
triangles_buffer ps ts r p l o q = lent_after (pairs_fault ps ts r p l (length o) (length q)) q (over (triangle_list ps ts r p l) q)
