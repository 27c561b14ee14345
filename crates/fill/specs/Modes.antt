-- 01, Fill: the whole call, as a procedure and as what it means. Definitions only.
use Rattle.std.specs.Prelude.{Bool, true, ◌↔◌, ◌≡◌, List, map, ℕ, ◌+◌, ◌≤◌, eqb, length}
use Rattle.grid.specs.declared.Axes.{Axes}
use Rattle.grid.specs.declared.Cell.{Cell}
use Rattle.grid.specs.declared.LabelSet.{LabelSet}
use Rattle.grid.specs.Answers.{Checked}
use Rattle.grid.specs.Checks.{takes, map_fault, label_ranges}
use Rattle.grid.specs.Counts.{count, count_of}
use Rattle.grid.specs.First.{every}
use Rattle.grid.specs.Flood.{Flooded}
use Rattle.grid.specs.Grid.{InGrid, at}
use Rattle.grid.specs.Labels.{UNDEFINED, INSIDE_TO_WALK, OUTSIDE, SURFACE}
use Rattle.fill.specs.declared.Mode.{Mode}
use Rattle.fill.specs.declared.Mode.TheVariants.{SurfaceOnly, Flood, Cavities}
use Rattle.fill.specs.declared.FillCounts.{FillCounts}
use Rattle.fill.specs.Phases.{surface_only, FloodRun, CavityRun}

-- "marks of 0 and 8 only (else 11)", after 8 and 9
abbrev pub marks : LabelSet
marks = label_ranges UNDEFINED UNDEFINED SURFACE SURFACE

abbrev pub fill_fault : Axes → List ℕ → Checked
fill_fault = map_fault marks

-- "the cells left, which is how many labels are 0 at the end". Nothing else says what is left
abbrev pub is_left : ℕ → Bool
is_left v = eqb v UNDEFINED

abbrev pub left : List ℕ → ℕ
left l = count is_left l

-- ---- the procedure: "the answer reports the number of whole-grid scans, all phases together, and the cells left"

abbrev pub Scans : Mode → Axes → List ℕ → List ℕ → ℕ → Type 0
Scans SurfaceOnly r before after n = (after ≡ map surface_only before) × (n ≡ 0)
Scans Flood r before after n = FloodRun r before after n
Scans Cavities r before after n = CavityRun r before after n

pub record Fills (mode : Mode) (r : Axes) (before : List ℕ) (n : FillCounts) (after : List ℕ) : Type 0 where
  pub scanned : Scans mode r before after n.scans
  pub counted : n.left ≡ left after

-- ---- the meaning

-- every label but 8 becomes 6, and 8 stays
pub record OthersOutside (r : Axes) (before after : List ℕ) : Type 0 where
  pub size : length after ≡ length before
  pub surfaces : (c : Cell) → InGrid r c → at r before c ≡ SURFACE → at r after c ≡ SURFACE
  pub others : (c : Cell) → InGrid r c → (at r before c ≡ SURFACE → ⊥) → at r after c ≡ OUTSIDE

-- surface cells are the same before and after
abbrev pub SameSurface : Axes → List ℕ → List ℕ → Type 0
SameSurface r before after = (c : Cell) → InGrid r c → (at r after c ≡ SURFACE) ↔ (at r before c ≡ SURFACE)

-- every label is one of a set
abbrev pub Among : LabelSet → List ℕ → Type 0
Among s l = every (takes s) l ≡ true

-- surface, Outside, Inside, and what a phase has not walked: 0, 1 and 2
abbrev pub cavity_labels : LabelSet
cavity_labels = label_ranges UNDEFINED INSIDE_TO_WALK OUTSIDE SURFACE

-- surface-only: every other cell is 6, in 0 scans. Flood: demand 2, none left, and "scans are at most the Outside cells plus 1". With cavities: surface cells stay surface, and no working label of a surface stays; which other cells get which label, only the scans say
abbrev pub Means : Mode → Axes → List ℕ → FillCounts → List ℕ → Type 0
Means SurfaceOnly r before n after = OthersOutside r before after × (n.scans ≡ 0) × (n.left ≡ 0)
Means Flood r before n after = Flooded r before after × (n.left ≡ 0) × (n.scans ≤ count_of OUTSIDE after + 1)
Means Cavities r before n after = SameSurface r before after × Among cavity_labels after
