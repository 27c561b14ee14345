-- 01, List, classes, planes, boxes: the planes of one axis. Definitions only.
use Rattle.std.specs.Prelude.{List, ℕ, length, Float, Ok}
use Rattle.grid.specs.declared.Placement.{Placement}
use Rattle.grid.specs.Answers.{Outcome, ◌and_then◌, lent_after, Checked}
use Rattle.marking_mesh.specs.Mesh.{origin_along}
use Rattle.order.specs.Output.{room_fault, over}
use Rattle.planes.specs.declared.Planes.{Planes}
pub use Rattle.planes_range.specs.PlaneRange.{axis_fault, out_of_range, plane_range_fault, first_plane, last_plane, past_plane, plane_count, planes_fault}
unfoldable pub use Rattle.planes_range.specs.PlaneRange.{plane_at, planes_of}

-- the whole call: 3, 5 and 12, then 14
abbrev pub all_planes_fault : Placement → ℕ → ℕ → ℕ → ℕ → ℕ → ℕ → Checked
all_planes_fault placement axis low high best step len = planes_fault placement axis low high best step and_then room_fault len (plane_count low high best step)

abbrev pub planes_answer : Placement → ℕ → ℕ → ℕ → ℕ → ℕ → List Float → Outcome Planes
planes_answer placement axis low high best step o =
    all_planes_fault placement axis low high best step (length o) and_then Ok (record { first = first_plane low best step; count = plane_count low high best step })

abbrev pub planes_buffer : Placement → ℕ → ℕ → ℕ → ℕ → ℕ → List Float → List Float
planes_buffer placement axis low high best step o =
    lent_after (all_planes_fault placement axis low high best step (length o)) o
    (over (planes_of (origin_along placement axis) placement.scale (first_plane low best step) (plane_count low high best step)) o)
