-- What the functions of `marking_mesh` ask and answer of each other. Definitions only.
use Rattle.std.specs.Prelude.{Bool, true, ◌&&◌, ◌≡◌, List, ℕ, ◌<◌, leb, ltb, ℤ, pos, length, get_or, Float}
use Rattle.grid.specs.declared.Axes.{Axes}
use Rattle.grid.specs.declared.Cell.{Cell}
use Rattle.grid.specs.declared.Placement.{Placement}
use Rattle.sizing.specs.Sizing.{points}
use Rattle.touch.specs.Touch.{vertex}
use Rattle.grid.specs.declared.Stretch.{Stretch}
use Rattle.grid.specs.declared.Block.{Block}
use Rattle.marking_mesh.specs.Mesh.{vertex_of, on_grid, first_of, past_of, cell_along}

-- every corner names a point
pub record Named (ps : List Float) (ts : List ℕ) : Type 0 where
  pub names : (k : ℕ) → k < length ts → get_or ts k 0 < points ps

-- and falls on a cell
pub record OnGrid (ps : List Float) (ts : List ℕ) (r : Axes) (placement : Placement) : Type 0 where
  pub falls : (k : ℕ) → k < length ts → on_grid r (vertex_of ps placement (get_or ts k 0)) ≡ true

-- a triangle whose vertices fall on cells
pub record OnCells (r : Axes) (t : List (List ℤ)) : Type 0 where
  pub on0 : on_grid r (vertex t 0) ≡ true
  pub on1 : on_grid r (vertex t 1) ≡ true
  pub on2 : on_grid r (vertex t 2) ≡ true

-- a cell's number along an axis, which has at most 256
pub record Held (c : ℤ) : Type 0 where
  pub number : ℕ
  pub is : c ≡ pos number
  pub small : number < 256

-- the ends of the candidates along an axis of n cells, of vertices in the cells a, b and c
pub record StretchOf (n : ℕ) (a b c : ℤ) (e : Stretch) : Type 0 where
  pub begins : pos e.from ≡ first_of a b c
  pub stops : pos e.to ≡ past_of n a b c

-- a block holds a triangle's candidates
pub record BlockOf (t : List (List ℤ)) (r : Axes) (b : Block) : Type 0 where
  pub on_i : StretchOf r.r0 (cell_along t 0 0) (cell_along t 0 1) (cell_along t 0 2) b.i
  pub on_j : StretchOf r.r1 (cell_along t 1 0) (cell_along t 1 1) (cell_along t 1 2) b.j
  pub on_k : StretchOf r.r2 (cell_along t 2 0) (cell_along t 2 1) (cell_along t 2 2) b.k

-- x lies between two ends; c is a cell of a block
abbrev pub between : Stretch → ℕ → Bool
between e x = leb e.from x && ltb x e.to

unfoldable pub holds : Block → Cell → Bool
holds b c = between b.i c.i && between b.j c.j && between b.k c.k
