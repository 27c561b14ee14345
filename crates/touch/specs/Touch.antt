-- 01, Marking: whether a triangle touches a cell. All numbers are whole, with a sign, in units of a cell's side. The meaning of separation (`Separates`) and its computation (`apart`); proofs/Meaning.antt joins them. Definitions only.
use Rattle.std.specs.Prelude.{Bool, false, not, ◌&&◌, ◌||◌, List, [], ◌∷◌, ◌++◌, ℕ, ◌*◌, ◌≤◌, ◌<◌, T, ℤ, pos, nat_abs, ◌+ℤ◌, ◌-ℤ◌, ◌*ℤ◌, get_or}
use Rattle.std.specs.Int.Signed.{lt_z}
use Rattle.grid.specs.declared.Cell.{Cell}
use Rattle.numbers.specs.Rounding.{units, half}

-- "A triangle is three vertices of three coordinates each." Coordinate n of a vertex, a point or a direction; vertex n of a triangle
abbrev pub along : List ℤ → ℕ → ℤ
along v n = get_or v n (pos 0)

abbrev pub vertex : List (List ℤ) → ℕ → List ℤ
vertex t n = get_or t n []

-- "Cell (i, j, k) is the closed cube of 256 units a side about (256 i, 256 j, 256 k)": its centre, and the points of it that have whole coordinates
abbrev pub centre : Cell → List ℤ
centre c = pos (units * c.i) ∷ pos (units * c.j) ∷ pos (units * c.k) ∷ []

pub record InCube (c : Cell) (p : List ℤ) : Type 0 where
  pub on_i : nat_abs (along p 0 -ℤ along (centre c) 0) ≤ half
  pub on_j : nat_abs (along p 1 -ℤ along (centre c) 1) ≤ half
  pub on_k : nat_abs (along p 2 -ℤ along (centre c) 2) ≤ half

-- "The projections are signed whole numbers": of a point on a direction
unfoldable pub dot_z : List ℤ → List ℤ → ℤ
dot_z d v = along d 0 *ℤ along v 0 +ℤ along d 1 *ℤ along v 1 +ℤ along d 2 *ℤ along v 2

-- ---- meaning

-- a direction separates a triangle from a cell; "separation is strict": the projections of the vertices lie all above those of the cube's points, or all below
pub data Separates (d : List ℤ) (t : List (List ℤ)) (c : Cell) : Type 0 where
  above : ((p : List ℤ) → InCube c p → (n : ℕ) → n < 3 → T (lt_z (dot_z d p) (dot_z d (vertex t n)))) → Separates d t c
  below : ((p : List ℤ) → InCube c p → (n : ℕ) → n < 3 → T (lt_z (dot_z d (vertex t n)) (dot_z d p))) → Separates d t c

-- ---- the thirteen directions

-- from one vertex to another
unfoldable pub edge : List ℤ → List ℤ → List ℤ
edge a b = (along b 0 -ℤ along a 0) ∷ (along b 1 -ℤ along a 1) ∷ (along b 2 -ℤ along a 2) ∷ []

-- the product of two directions, across both
unfoldable pub cross : List ℤ → List ℤ → List ℤ
cross a b =
    (along a 1 *ℤ along b 2 -ℤ along a 2 *ℤ along b 1)
    ∷ (along a 2 *ℤ along b 0 -ℤ along a 0 *ℤ along b 2)
    ∷ (along a 0 *ℤ along b 1 -ℤ along a 1 *ℤ along b 0)
    ∷ []

-- "three axes"
abbrev pub axis_x : List ℤ
axis_x = pos 1 ∷ pos 0 ∷ pos 0 ∷ []

abbrev pub axis_y : List ℤ
axis_y = pos 0 ∷ pos 1 ∷ pos 0 ∷ []

abbrev pub axis_z : List ℤ
axis_z = pos 0 ∷ pos 0 ∷ pos 1 ∷ []

abbrev pub axes : List (List ℤ)
axes = axis_x ∷ axis_y ∷ axis_z ∷ []

-- the edge from vertex a to vertex b; "the triangle's normal"; "products of an edge with an axis"
abbrev pub edge_of : List (List ℤ) → ℕ → ℕ → List ℤ
edge_of t a b = edge (vertex t a) (vertex t b)

abbrev pub normal : List (List ℤ) → List ℤ
normal t = cross (edge_of t 0 1) (edge_of t 1 2)

abbrev pub with_axes : List ℤ → List (List ℤ)
with_axes e = cross e axis_x ∷ cross e axis_y ∷ cross e axis_z ∷ []

-- "13 directions: three axes, the triangle's normal, nine products of an edge with an axis"
abbrev pub directions : List (List ℤ) → List (List ℤ)
directions t = axes ++ (normal t ∷ []) ++ with_axes (edge_of t 0 1) ++ with_axes (edge_of t 1 2) ++ with_axes (edge_of t 2 0)

-- ---- computation

-- how far a cell's cube reaches from its centre on a direction: half a side times the sum of the direction's sizes
abbrev pub abs_z : ℤ → ℤ
abs_z z = pos (nat_abs z)

unfoldable pub cube_reach : List ℤ → ℤ
cube_reach d = pos half *ℤ (abs_z (along d 0) +ℤ abs_z (along d 1) +ℤ abs_z (along d 2))

-- three numbers are all above a number, or all below it
abbrev pub all_above : ℤ → ℤ → ℤ → ℤ → Bool
all_above z a b c = lt_z z a && lt_z z b && lt_z z c

abbrev pub all_below : ℤ → ℤ → ℤ → ℤ → Bool
all_below z a b c = lt_z a z && lt_z b z && lt_z c z

-- the vertices' projections lie all above the cube's greatest, or all below its least
unfoldable pub apart : List ℤ → List (List ℤ) → Cell → Bool
apart d t c =
    all_above (dot_z d (centre c) +ℤ cube_reach d) (dot_z d (vertex t 0)) (dot_z d (vertex t 1)) (dot_z d (vertex t 2))
    || all_below (dot_z d (centre c) -ℤ cube_reach d) (dot_z d (vertex t 0)) (dot_z d (vertex t 1)) (dot_z d (vertex t 2))

-- some direction of a list separates
unfoldable pub some_apart : List (List ℤ) → List (List ℤ) → Cell → Bool
some_apart [] t c = false
some_apart (d ∷ ds) t c = apart d t c || some_apart ds t c

-- "It touches a cell exactly if none of 13 directions separates them"
unfoldable pub touching : List (List ℤ) → Cell → Bool
touching t c = not (some_apart (directions t) t c)
