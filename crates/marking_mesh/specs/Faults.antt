-- The refusals of a lent mesh, grid and placement: 1, 2, 3, 4, 5, 8, 9 and 10 of 01's table. Definitions only.
use Rattle.std.specs.Prelude.{Bool, false, not, ◌&&◌, List, [], ◌∷◌, ℕ, ◌/◌, ltb, pos, negsuc, length, Float, Ok}
use Rattle.std.specs.Float.{fin, binary32}
use Rattle.std.specs.Float.Ieee.{le, eq, div}
use Rattle.grid.specs.declared.Axes.{Axes}
use Rattle.grid.specs.declared.Placement.{Placement}
use Rattle.grid.specs.Answers.{fault_if, ◌and_then◌, Checked}
use Rattle.grid.specs.Checks.{first_fault, grid_fault}
use Rattle.sizing.specs.Points.{length_fault, none_fault, numbers_fault}
use Rattle.sizing.specs.Sizing.{points}
use Rattle.marking_mesh.specs.Mesh.{vertex_of, on_grid}
use Rattle.grid.specs.declared.Reason.TheVariants.{MissingName, BadSize, OffGrid}

-- "3: a point or origin number ..."; "a lent origin or d is numbered before them"
abbrev pub origin_fault : Placement → Checked
origin_fault placement = numbers_fault 0 (placement.x ∷ placement.y ∷ placement.z ∷ [])

-- "4: a triangle names a missing point"; the place is the triangle
abbrev pub names : ℕ → ℕ → Bool
names n v = ltb v n

abbrev pub missing_fault : ℕ → List ℕ → Checked
missing_fault n ts = first_fault MissingName (λ k. k / 3) (names n) ts

-- 2 ^ -18 and 2 ^ 21
abbrev pub least_scale : Float
least_scale = fin false 1 (negsuc 17)

abbrev pub greatest_scale : Float
greatest_scale = fin false 1 (pos 21)

-- "5: .. a lent scale not within 2^-18 to 2^21, or a lent reciprocal that is not 1 / scale rounded once"
abbrev pub lent_fault : Placement → Checked
lent_fault placement =
    fault_if (not (le least_scale placement.scale && le placement.scale greatest_scale && eq placement.reciprocal (div binary32 (fin false 1 (pos 0)) placement.scale))) BadSize 0 (Ok tt)

-- "10: a triangle's vertex falls on no cell; place is the triangle"
abbrev pub off_fault : List Float → List ℕ → Axes → Placement → Checked
off_fault ps ts r placement = first_fault OffGrid (λ k. k / 3) (λ v. on_grid r (vertex_of ps placement v)) ts

-- 1 and 2; 3, the origin first; 4 and 5; 8 and 9; 10. len is the length of the label buffer
abbrev pub lengths_fault : List Float → List ℕ → Checked
lengths_fault ps ts = length_fault (length ps) and_then length_fault (length ts) and_then none_fault (length ps)

abbrev pub lent_numbers_fault : List Float → Placement → Checked
lent_numbers_fault ps placement = origin_fault placement and_then numbers_fault 3 ps

abbrev pub input_fault : List Float → List ℕ → Axes → Placement → ℕ → Checked
input_fault ps ts r placement len =
    lengths_fault ps ts and_then lent_numbers_fault ps placement and_then missing_fault (points ps) ts and_then lent_fault placement and_then grid_fault r len

abbrev pub mesh_fault : List Float → List ℕ → Axes → Placement → ℕ → Checked
mesh_fault ps ts r placement len = input_fault ps ts r placement len and_then off_fault ps ts r placement
