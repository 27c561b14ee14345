-- 01, List: the pairs of a list, and how many there are. Definitions only.
use Rattle.std.specs.Prelude.{Bool, ◌&&◌, List, ℕ, eqb, length, Float}
use Rattle.grid.specs.declared.Axes.{Axes}
use Rattle.grid.specs.declared.Cell.{Cell}
use Rattle.grid.specs.declared.Placement.{Placement}
use Rattle.grid.specs.Grid.{at}
use Rattle.grid.specs.Labels.{SURFACE}
use Rattle.marking_mesh.specs.Mesh.{triangles}
use Rattle.marking.specs.Marked.{hits}
use Rattle.order.specs.Order.{in_order, keep, chosen, join_all}
use Rattle.list.specs.List.{listed}

-- the cells 8 of a set
abbrev pub surface_in : Axes → List ℕ → (Cell → Bool) → Cell → Bool
surface_in r l set c = eqb (at r l c) SURFACE && set c

-- a cell 8 and a triangle that has it "as a candidate and touches it" (`hits` of marking)
abbrev pub joins : List Float → List ℕ → Axes → Placement → List ℕ → ℕ → Cell → Bool
joins ps ts r p l t = surface_in r l (hits ps ts r p t)

-- "each cell 8 has the ascending numbers of triangles that have it as a candidate and touch it", another cell none
abbrev pub triangles_of : List Float → List ℕ → Axes → Placement → List ℕ → Cell → List ℕ
triangles_of ps ts r p l c = chosen (λ t. joins ps ts r p l t c) (triangles ts)

-- the list of triangle numbers: those of each listed cell, in list order, one after the other
abbrev pub triangle_list : List Float → List ℕ → Axes → Placement → List ℕ → List ℕ
triangle_list ps ts r p l = join_all (triangles_of ps ts r p l) (listed r l)

-- how many pairs there are
abbrev pub pair_count : List Float → List ℕ → Axes → Placement → List ℕ → ℕ
pair_count ps ts r p l = length (triangle_list ps ts r p l)

-- how many cells a set has
abbrev pub size_of : Axes → (Cell → Bool) → ℕ
size_of r set = length (keep set (in_order r))
