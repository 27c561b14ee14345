-- 01, Edits: opening and closing a cell of any grid of labels 6, 7 and 8. Definitions only.
use Rattle.std.specs.Prelude.{true, false, cond, ◌⊎◌, ◌≡◌, List, [], ◌∷◌, ℕ, ◌+◌, eqb, length, set}
use Rattle.grid.specs.declared.Axes.{Axes}
use Rattle.grid.specs.declared.Cell.{Cell}
use Rattle.grid.specs.Answers.{◌and_then◌, Checked}
use Rattle.grid.specs.Checks.{map_fault}
use Rattle.grid.specs.Grid.{InGrid, num, at, Face, Border}
use Rattle.grid.specs.Paths.{Through}
use Rattle.grid.specs.Labels.{OUTSIDE, INSIDE, SURFACE}
pub use Rattle.edits_checks.specs.Checks.{map_labels, in_grid, wrong_kind, cell_fault}
pub use Rattle.edits_settle.specs.Closing.{HasWay}

pub data Edit : Type 0 where
  opening : Cell → Edit
  closing : Cell → Edit

-- ---- refusals

-- 11, after 8 and 9; then 12 and 13
abbrev pub edit_fault : Axes → List ℕ → Edit → Checked
edit_fault r l (opening c) = map_fault map_labels r l and_then cell_fault r l c true
edit_fault r l (closing c) = map_fault map_labels r l and_then cell_fault r l c false

-- ---- what becomes of the labels

-- "c is on the border or has a face neighbour 6"
abbrev pub MeetsAir : Axes → List ℕ → Cell → Type 0
MeetsAir r l c = Border r c ⊎ ((d : Cell) × InGrid r d × Face c d × (at r l d ≡ OUTSIDE))

-- the label v of cell d after c was opened. "Open c: if c is on the border or has a face neighbour 6, then c and every 7 reached from it through cells 7 become 6. Otherwise c becomes 7."
pub data Opens (r : Axes) (l : List ℕ) (c d : Cell) (v : ℕ) : Type 0 where
  aired : MeetsAir r l c → Through r l INSIDE c d → v ≡ OUTSIDE → Opens r l c d v
  unreached : MeetsAir r l c → (Through r l INSIDE c d → ⊥) → v ≡ at r l d → Opens r l c d v
  alone : (MeetsAir r l c → ⊥) → d ≡ c → v ≡ INSIDE → Opens r l c d v
  other : (MeetsAir r l c → ⊥) → (d ≡ c → ⊥) → v ≡ at r l d → Opens r l c d v

-- "c becomes 8"
abbrev pub lidded : Axes → List ℕ → Cell → List ℕ
lidded r l c = set l (num r c) SURFACE

-- the label v of cell d after c was closed. "Close c: c becomes 8. If it was 6, each other cell 6 that was joined to c through cells 6 and now has no path of cells 6 to a border cell becomes 7."
pub data Closes (r : Axes) (l : List ℕ) (c d : Cell) (v : ℕ) : Type 0 where
  lid : d ≡ c → v ≡ SURFACE → Closes r l c d v
  sealed : (d ≡ c → ⊥) → at r l c ≡ OUTSIDE → Through r l OUTSIDE c d → (HasWay r (lidded r l c) d → ⊥) → v ≡ INSIDE → Closes r l c d v
  stays : (d ≡ c → ⊥) → (at r l c ≡ OUTSIDE → Through r l OUTSIDE c d → HasWay r (lidded r l c) d) → v ≡ at r l d → Closes r l c d v

abbrev pub Becomes : Axes → List ℕ → Edit → Cell → ℕ → Type 0
Becomes r l (opening c) = Opens r l c
Becomes r l (closing c) = Closes r l c

-- "how many labels changed"
unfoldable pub changed : List ℕ → List ℕ → ℕ
changed [] after = 0
changed (x ∷ before) [] = 0
changed (x ∷ before) (y ∷ after) = cond (eqb x y) 0 1 + changed before after

-- the whole of an edit that is not refused: every label, and the answer
pub record Edited (r : Axes) (before : List ℕ) (e : Edit) (n : ℕ) (after : List ℕ) : Type 0 where
  pub size : length after ≡ length before
  pub each : (d : Cell) → InGrid r d → Becomes r before e d (at r after d)
  pub counted : n ≡ changed before after
