-- Paths of cells, face to face, over any set of cells to start from and any set of cells that may be passed. Definitions only.
use Rattle.std.specs.Prelude.{List, ◌≡◌, ℕ}
use Rattle.grid.specs.declared.Axes.{Axes}
use Rattle.grid.specs.declared.Cell.{Cell}
use Rattle.grid.specs.Grid.{InGrid, at, Face}

-- Demand 2: "a path of such cells, face to face, joins it to a border cell". Joined r Seed Pass c: a path leads from a cell of the set Seed to c, each cell after the first being of the set Pass and sharing a face with the one before
pub data Joined (r : Axes) (Seed Pass : Cell → Type 0) : Cell → Type 0 where
  starts : {c : Cell} → InGrid r c → Seed c → Joined r Seed Pass c
  steps : {c d : Cell} → Joined r Seed Pass c → Face c d → InGrid r d → Pass d → Joined r Seed Pass d

-- the one cell c
abbrev pub Only : Cell → Cell → Type 0
Only c d = d ≡ c

-- 01, Edits: "reached from it through cells 7", "joined to c through cells 6": from c through cells with the label v. Of c's own label nothing is asked
abbrev pub Through : Axes → List ℕ → ℕ → Cell → Cell → Type 0
Through r l v c = Joined r (Only c) (λ d. at r l d ≡ v)
