-- 01, List, classes, planes, boxes: "Boxes: eight corners and twelve triangles a cell, in V's order." Definitions only.
use Rattle.std.specs.Prelude.{List, [], ◌++◌, ℕ, zero, suc, ◌+◌, ◌*◌, eqb, ltb, length, Float, Ok}
use Rattle.grid.specs.declared.Axes.{Axes}
use Rattle.grid.specs.declared.Cell.{Cell}
use Rattle.grid.specs.declared.Placement.{Placement}
use Rattle.grid.specs.Answers.{Outcome, fault_if, ◌and_then◌, lent_after, Checked}
use Rattle.grid.specs.Grid.{at}
use Rattle.grid.specs.Checks.{grid_fault, labels_fault}
use Rattle.grid.specs.Labels.{SURFACE}
use Rattle.marking_mesh.specs.Faults.{origin_fault, lent_fault}
use Rattle.order.specs.Order.{in_order, keep, join_all, known_labels}
use Rattle.order.specs.Output.{room_fault, over}
pub use Rattle.boxes_corners.specs.Corners.{lo, hi, cell_corners, cell_triangles}
use Rattle.grid.specs.declared.Reason.TheVariants.{BadLabel}
unfoldable pub use Rattle.boxes_corners.specs.Corners.{corners, faces, corner_of, face_of}

-- ---- all cells that have the asked label, "i outermost, k innermost"

abbrev pub box_cells : Axes → List ℕ → ℕ → List Cell
box_cells r l label = keep (λ c. eqb (at r l c) label) (in_order r)

abbrev pub box_points : Placement → List Cell → List Float
box_points placement cs = join_all (cell_corners placement) cs

-- "V takes `s` after pushing the corners, so its triangles point 8 too far. The port takes it before": the triangles of n cells, of which the first has m cells before it, with eight points each
unfoldable pub box_triangles : ℕ → ℕ → List ℕ
box_triangles m zero = []
box_triangles m (suc n) = cell_triangles (8 * m) ++ box_triangles (m + 1) n

-- ---- the whole call: 3, 5, 8, 9, 11 and 14

-- "11: a label the call does not take"; "an asked label comes first, as 0"
abbrev pub asked_fault : ℕ → Checked
asked_fault label = fault_if (ltb SURFACE label) BadLabel 0 (Ok tt)

abbrev pub boxes_fault : List ℕ → Axes → Placement → ℕ → Checked
boxes_fault l r placement label = origin_fault placement and_then lent_fault placement and_then grid_fault r (length l) and_then asked_fault label and_then labels_fault known_labels l

-- 14 of outputs of p and t numbers, for n cells
abbrev pub rooms_fault : ℕ → ℕ → ℕ → Checked
rooms_fault n p t = room_fault p (24 * n) and_then room_fault t (36 * n)

abbrev pub box_count : List ℕ → Axes → ℕ → ℕ
box_count l r label = length (box_cells r l label)

abbrev pub all_fault : List ℕ → Axes → Placement → ℕ → ℕ → ℕ → Checked
all_fault l r placement label p t = boxes_fault l r placement label and_then rooms_fault (box_count l r label) p t

abbrev pub boxes_answer : List ℕ → Axes → Placement → ℕ → List Float → List ℕ → Outcome ℕ
boxes_answer l r placement label ps ts = all_fault l r placement label (length ps) (length ts) and_then Ok (box_count l r label)

abbrev pub points_buffer : List ℕ → Axes → Placement → ℕ → List Float → List ℕ → List Float
points_buffer l r placement label ps ts = lent_after (all_fault l r placement label (length ps) (length ts)) ps (over (box_points placement (box_cells r l label)) ps)

abbrev pub triangles_buffer : List ℕ → Axes → Placement → ℕ → List Float → List ℕ → List ℕ
triangles_buffer l r placement label ps ts = lent_after (all_fault l r placement label (length ps) (length ts)) ts (over (box_triangles 0 (box_count l r label)) ts)
