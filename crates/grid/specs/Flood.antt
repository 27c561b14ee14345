-- Demand 2: what a fill without cavities means, by paths. Definitions only.
use Rattle.std.specs.Prelude.{◌≡◌, List, ℕ, length}
use Rattle.grid.specs.declared.Axes.{Axes}
use Rattle.grid.specs.declared.Cell.{Cell}
use Rattle.grid.specs.Grid.{InGrid, at, Border}
use Rattle.grid.specs.Paths.{Joined}
use Rattle.grid.specs.Labels.{OUTSIDE, INSIDE, SURFACE}

-- "a cell that is no surface"
abbrev pub NoSurface : Axes → List ℕ → Cell → Type 0
NoSurface r l c = at r l c ≡ SURFACE → ⊥

-- "a path of such cells, face to face, joins it to a border cell"
abbrev pub Aired : Axes → List ℕ → Cell → Type 0
Aired r l = Joined r (λ c. Border r c × NoSurface r l c) (NoSurface r l)

-- the label v of a cell after the fill: "is Outside exactly if" there is such a path, "otherwise Inside"; a surface stays 8
pub data Floods (r : Axes) (l : List ℕ) (c : Cell) (v : ℕ) : Type 0 where
  surface : at r l c ≡ SURFACE → v ≡ SURFACE → Floods r l c v
  outside : Aired r l c → v ≡ OUTSIDE → Floods r l c v
  inside : NoSurface r l c → (Aired r l c → ⊥) → v ≡ INSIDE → Floods r l c v

-- the labels after are the fill without cavities of the surface cells of those before
pub record Flooded (r : Axes) (before after : List ℕ) : Type 0 where
  pub size : length after ≡ length before
  pub each : (c : Cell) → InGrid r c → Floods r before c (at r after c)
