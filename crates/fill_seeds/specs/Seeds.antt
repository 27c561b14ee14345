-- 01, Fill: the seeding. Definitions only.
use Rattle.std.specs.Prelude.{cond, ◌≡◌, List, ℕ, ◌≤◌, ◌<◌}
use Rattle.grid.specs.declared.Axes.{Axes}
use Rattle.grid.specs.declared.Cell.{Cell}
use Rattle.grid.specs.Grid.{at, labels_by, on_border, cell_numbered}
use Rattle.grid.specs.Passes.{becomes}
use Rattle.grid.specs.Labels.{UNDEFINED, OUTSIDE_TO_WALK}

-- "All border cells with label 0 become 1"
abbrev pub seed_of : Axes → List ℕ → Cell → ℕ
seed_of r l c = cond (on_border r c) (becomes UNDEFINED UNDEFINED OUTSIDE_TO_WALK (at r l c)) (at r l c)

abbrev pub seeded : Axes → List ℕ → List ℕ
seeded r l = labels_by r (seed_of r l)

-- the same by the numbers of cells
abbrev pub seed_at : Axes → ℕ → ℕ → ℕ
seed_at r n v = cond (on_border r (cell_numbered r n)) (becomes UNDEFINED UNDEFINED OUTSIDE_TO_WALK v) v

-- the cells from number a up to, not including, b are border cells exactly if c is one
abbrev pub Alike : Axes → Cell → ℕ → ℕ → Type 0
Alike r c a b = (n : ℕ) → a ≤ n → n < b → on_border r (cell_numbered r n) ≡ on_border r c
