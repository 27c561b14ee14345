-- 01, Marking: which cells are surface, and the whole call. Definitions only.
use Rattle.std.specs.Prelude.{Bool, cond, ◌&&◌, List, ℕ, length, Float, Ok}
use Rattle.grid.specs.declared.Axes.{Axes}
use Rattle.grid.specs.declared.Cell.{Cell}
use Rattle.grid.specs.declared.Placement.{Placement}
use Rattle.grid.specs.Answers.{Outcome, lent_after, ◌and_then◌}
use Rattle.grid.specs.First.{some_below}
use Rattle.grid.specs.Grid.{labels_by}
use Rattle.grid.specs.Labels.{UNDEFINED, SURFACE}
use Rattle.touch.specs.Touch.{touching}
use Rattle.marking_mesh.specs.Mesh.{triangles, triangle_of, is_candidate}
use Rattle.marking_mesh.specs.Faults.{mesh_fault}

-- triangle t has c as a candidate and touches it
unfoldable pub hits : List Float → List ℕ → Axes → Placement → ℕ → Cell → Bool
hits ps ts r placement t c = is_candidate (triangle_of ps ts placement t) r c && touching (triangle_of ps ts placement t) c

-- "Surface cells are candidates touched by some triangle"
abbrev pub is_surface : List Float → List ℕ → Axes → Placement → Cell → Bool
is_surface ps ts r placement c = some_below (triangles ts) (λ t. hits ps ts r placement t c)

-- "marking writes 8 there and 0 in every other cell"
abbrev pub mark_label : Bool → ℕ
mark_label surface = cond surface SURFACE UNDEFINED

abbrev pub marked_labels : List Float → List ℕ → Axes → Placement → List ℕ
marked_labels ps ts r placement = labels_by r (λ c. mark_label (is_surface ps ts r placement c))

-- the whole call: its answer (1, 2, 3, 4, 5, 8, 9 and 10), and the labels after it
abbrev pub mark_answer : List Float → List ℕ → Axes → Placement → List ℕ → Outcome Unit
mark_answer ps ts r placement l = mesh_fault ps ts r placement (length l) and_then Ok tt

abbrev pub mark_labels : List Float → List ℕ → Axes → Placement → List ℕ → List ℕ
mark_labels ps ts r placement l = lent_after (mesh_fault ps ts r placement (length l)) l (marked_labels ps ts r placement)
