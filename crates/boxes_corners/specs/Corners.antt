-- 01, List, classes, planes, boxes: the eight corners and the twelve triangles of a cell, "in V's order". Definitions only.
use Rattle.std.specs.Prelude.{true, false, List, [], ◌∷◌, ℕ, ◌+◌, negsuc, get_or, Float}
use Rattle.std.specs.Float.{nan, fin}
use Rattle.grid.specs.declared.Cell.{Cell}
use Rattle.grid.specs.declared.Placement.{Placement}
use Rattle.marking_mesh.specs.Mesh.{off_centre}
use Rattle.order.specs.Order.{join_all}

-- ---- V's two tables

-- half a cell down, and half a cell up
abbrev pub lo : Float
lo = fin true 1 (negsuc 0)

abbrev pub hi : Float
hi = fin false 1 (negsuc 0)

-- the eight corners: how far each lies off the cell's centre along i, j and k
unfoldable pub corners : List (List Float)
corners =
    (lo ∷ lo ∷ lo ∷ [])
    ∷ (hi ∷ lo ∷ lo ∷ [])
    ∷ (hi ∷ hi ∷ lo ∷ [])
    ∷ (lo ∷ hi ∷ lo ∷ [])
    ∷ (lo ∷ lo ∷ hi ∷ [])
    ∷ (hi ∷ lo ∷ hi ∷ [])
    ∷ (hi ∷ hi ∷ hi ∷ [])
    ∷ (lo ∷ hi ∷ hi ∷ [])
    ∷ []

-- the twelve triangles, by the numbers of their corners
unfoldable pub faces : List (List ℕ)
faces =
    (0 ∷ 2 ∷ 1 ∷ [])
    ∷ (0 ∷ 3 ∷ 2 ∷ [])
    ∷ (4 ∷ 5 ∷ 6 ∷ [])
    ∷ (4 ∷ 6 ∷ 7 ∷ [])
    ∷ (7 ∷ 6 ∷ 2 ∷ [])
    ∷ (7 ∷ 2 ∷ 3 ∷ [])
    ∷ (4 ∷ 1 ∷ 5 ∷ [])
    ∷ (4 ∷ 0 ∷ 1 ∷ [])
    ∷ (6 ∷ 5 ∷ 1 ∷ [])
    ∷ (6 ∷ 1 ∷ 2 ∷ [])
    ∷ (7 ∷ 0 ∷ 4 ∷ [])
    ∷ (7 ∷ 3 ∷ 0 ∷ [])
    ∷ []

-- ---- a cell

-- one corner: the origin and (i + shift) * scale along each axis, each operation rounded once
unfoldable pub corner_of : Placement → Cell → List Float → List Float
corner_of placement c shift =
    off_centre placement.x placement.scale c.i (get_or shift 0 nan)
    ∷ off_centre placement.y placement.scale c.j (get_or shift 1 nan)
    ∷ off_centre placement.z placement.scale c.k (get_or shift 2 nan)
    ∷ []

abbrev pub cell_corners : Placement → Cell → List Float
cell_corners placement c = join_all (corner_of placement c) corners

-- one triangle, of a cell whose first corner is point `base`
unfoldable pub face_of : ℕ → List ℕ → List ℕ
face_of base t = (base + get_or t 0 0) ∷ (base + get_or t 1 0) ∷ (base + get_or t 2 0) ∷ []

abbrev pub cell_triangles : ℕ → List ℕ
cell_triangles base = join_all (face_of base) faces
