-- 01, List, classes, planes, boxes: the range of the planes of one axis, and their d. Definitions only.
use Rattle.std.specs.Prelude.{Bool, cond, false, ◌||◌, List, [], ◌∷◌, ℕ, zero, suc, ◌+◌, ◌-◌, ltb, leb, negsuc, Float, Ok}
use Rattle.std.specs.Float.{fin}
use Rattle.std.specs.Float.Ieee.{neg}
use Rattle.grid.specs.declared.Placement.{Placement}
use Rattle.grid.specs.Answers.{fault_if, ◌and_then◌, Checked}
use Rattle.marking_mesh.specs.Mesh.{off_centre}
use Rattle.marking_mesh.specs.Faults.{origin_fault, lent_fault}
use Rattle.grid.specs.declared.Reason.TheVariants.{OutOfRange}

-- "12: a cell, axis, plane index or step outside its range"
abbrev pub axis_fault : ℕ → Checked
axis_fault axis = fault_if (ltb 2 axis) OutOfRange 0 (Ok tt)

-- "Low, high and best under 256, low <= high, step at most 256, else 12."
abbrev pub out_of_range : ℕ → ℕ → ℕ → ℕ → Bool
out_of_range low high best step = (((leb 256 low || leb 256 high) || leb 256 best) || ltb high low) || ltb 256 step

abbrev pub plane_range_fault : ℕ → ℕ → ℕ → ℕ → Checked
plane_range_fault low high best step = fault_if (out_of_range low high best step) OutOfRange 0 (Ok tt)

-- "from max(low, best - step, 0) to min(high, best + step), both ends included". A difference of whole numbers is 0 where it would be below 0
abbrev pub first_plane : ℕ → ℕ → ℕ → ℕ
first_plane low best step = cond (ltb low (best - step)) (best - step) low

abbrev pub last_plane : ℕ → ℕ → ℕ → ℕ
last_plane high best step = cond (ltb (best + step) high) (best + step) high

abbrev pub past_plane : ℕ → ℕ → ℕ → ℕ
past_plane high best step = last_plane high best step + 1

abbrev pub plane_count : ℕ → ℕ → ℕ → ℕ → ℕ
plane_count low high best step = past_plane high best step - first_plane low best step

-- "d = -(origin + (i + 0.5) * scale)"
unfoldable pub plane_at : Float → Float → ℕ → Float
plane_at origin scale i = neg (off_centre origin scale i (fin false 1 (negsuc 0)))

-- the d of n planes from index i on
unfoldable pub planes_of : Float → Float → ℕ → ℕ → List Float
planes_of origin scale i zero = []
planes_of origin scale i (suc n) = plane_at origin scale i ∷ planes_of origin scale (i + 1) n

-- 3, 5 and 12
abbrev pub planes_fault : Placement → ℕ → ℕ → ℕ → ℕ → ℕ → Checked
planes_fault placement axis low high best step = origin_fault placement and_then lent_fault placement and_then axis_fault axis and_then plane_range_fault low high best step
