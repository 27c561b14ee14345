-- 01, Sizing and placement and Marking: a vertex on the grid, a triangle, its candidates. Points are f32 triples, triangles u32 triples, one number after the other. Definitions only.
use Rattle.std.specs.Prelude.{Bool, cond, ◌&&◌, List, [], ◌∷◌, ℕ, ◌+◌, ◌*◌, ◌/◌, eqb, ℤ, pos, neg_ℤ, ◌+ℤ◌, ◌-ℤ◌, length, get_or, Float, Ok, Err}
use Rattle.std.specs.Int.Signed.{lt_z, le_z}
use Rattle.std.specs.Float.{binary32}
use Rattle.std.specs.Float.Ieee.{add, sub, mul}
use Rattle.grid.specs.declared.Axes.{Axes}
use Rattle.grid.specs.declared.Cell.{Cell}
use Rattle.grid.specs.declared.Placement.{Placement}
use Rattle.ints.specs.Order.{lesser, greater}
use Rattle.numbers.specs.Rounding.{Whole}
use Rattle.numbers.specs.Rounding.{units, nearest_of, cell_of}
use Rattle.sizing.specs.Sizing.{coord, as_float}
use Rattle.touch.specs.Touch.{along, vertex}

-- ---- a vertex on the grid

-- a number of units. After the refusals 3 and 5 it is always whole (`vertex_whole` in proofs/Reach.antt); for the rest, what is too large or no number stands a cell before the first, so that it falls on no cell
unfoldable pub whole_units : Whole → ℤ
whole_units (Ok q) = q
whole_units (Err e) = neg_ℤ (pos units)

-- "A vertex coordinate is t = (p - origin) * (1 / scale). Added: q = the largest whole number not above 256 t + 1/2, taken of the exact t."
unfoldable pub units_at : Float → Float → Float → ℤ
units_at p origin reciprocal = whole_units (nearest_of units (mul binary32 (sub binary32 p origin) reciprocal))

-- point v: its three coordinates
abbrev pub vertex_of : List Float → Placement → ℕ → List ℤ
vertex_of ps placement v =
    units_at (coord ps 0 v) placement.x placement.reciprocal
    ∷ units_at (coord ps 1 v) placement.y placement.reciprocal
    ∷ units_at (coord ps 2 v) placement.z placement.reciprocal
    ∷ []

-- a number q of units falls on one of n cells: "Its cell is (q + 128) div 256, rounded down"
unfoldable pub on_axis : ℕ → ℤ → Bool
on_axis n q = le_z (pos 0) (cell_of q) && lt_z (cell_of q) (pos n)

-- a vertex falls on a cell of the grid
abbrev pub on_grid : Axes → List ℤ → Bool
on_grid r v = on_axis r.r0 (along v 0) && on_axis r.r1 (along v 1) && on_axis r.r2 (along v 2)

-- ---- places on the grid

-- the origin along axis 0, 1 or 2
abbrev pub origin_along : Placement → ℕ → Float
origin_along placement axis = cond (eqb axis 0) placement.x (cond (eqb axis 1) placement.y placement.z)

-- 01, Planes: "origin + (i + 0.5) * scale", and V's corners of a box: `shift` cells off the centre of cell i; "each f32 operation rounded once, in the order given"
abbrev pub off_centre : Float → Float → ℕ → Float → Float
off_centre origin scale i shift = add binary32 origin (mul binary32 (add binary32 (as_float i) shift) scale)

-- ---- a triangle

-- how many triangles there are; the point that corner n of triangle t names; "A triangle is three vertices"
abbrev pub triangles : List ℕ → ℕ
triangles ts = length ts / 3

abbrev pub corner : List ℕ → ℕ → ℕ → ℕ
corner ts n t = get_or ts (3 * t + n) 0

abbrev pub triangle_of : List Float → List ℕ → Placement → ℕ → List (List ℤ)
triangle_of ps ts placement t = vertex_of ps placement (corner ts 0 t) ∷ vertex_of ps placement (corner ts 1 t) ∷ vertex_of ps placement (corner ts 2 t) ∷ []

-- ---- candidates: "Per axis, candidates run from max(least cell - 1, 0) up to, not including, min(greatest cell + 1, axis)."

-- of the cells a, b and c of the vertices along an axis of n cells
abbrev pub first_of : ℤ → ℤ → ℤ → ℤ
first_of a b c = greater (lesser (lesser a b) c -ℤ pos 1) (pos 0)

abbrev pub past_of : ℕ → ℤ → ℤ → ℤ → ℤ
past_of n a b c = lesser (greater (greater a b) c +ℤ pos 1) (pos n)

-- the cell of vertex v of a triangle along axis a
abbrev pub cell_along : List (List ℤ) → ℕ → ℕ → ℤ
cell_along t a v = cell_of (along (vertex t v) a)

abbrev pub first_along : List (List ℤ) → ℕ → ℤ
first_along t a = first_of (cell_along t a 0) (cell_along t a 1) (cell_along t a 2)

abbrev pub past_along : ℕ → List (List ℤ) → ℕ → ℤ
past_along n t a = past_of n (cell_along t a 0) (cell_along t a 1) (cell_along t a 2)

-- x is one of the candidates along axis a
abbrev pub candidate_along : ℕ → List (List ℤ) → ℕ → ℕ → Bool
candidate_along n t a x = le_z (first_along t a) (pos x) && lt_z (pos x) (past_along n t a)

unfoldable pub is_candidate : List (List ℤ) → Axes → Cell → Bool
is_candidate t r c = candidate_along r.r0 t 0 c.i && candidate_along r.r1 t 1 c.j && candidate_along r.r2 t 2 c.k
