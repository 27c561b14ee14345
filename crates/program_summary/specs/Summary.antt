-- 01, Program records: what the program says of an input. Definitions only.
use Rattle.std.specs.Prelude.{List, ◌≡◌, ℕ, ltb, Float, length, Ok, Err}
use Rattle.grid.specs.declared.Axes.{Axes}
use Rattle.grid.specs.declared.Placement.{Placement}
use Rattle.grid.specs.declared.Refusal.{Refusal}
use Rattle.grid.specs.Answers.{Outcome, fault_if, ◌and_then◌, Checked}
use Rattle.grid.specs.Counts.{count_of}
use Rattle.grid.specs.Grid.{cells}
use Rattle.grid.specs.Labels.{OUTSIDE, INSIDE, SURFACE}
use Rattle.sizing.specs.Points.{none_fault, numbers_fault}
use Rattle.sizing.specs.Sizing.{Laid, points, by_size, by_resolution}
use Rattle.marking_mesh.specs.Faults.{missing_fault}
use Rattle.marking.specs.Marked.{marked_labels}
use Rattle.fill.specs.declared.FillCounts.{FillCounts}
use Rattle.fill.specs.declared.Mode.{Mode}
use Rattle.fill.specs.Modes.{Fills}
use Rattle.program_reader.specs.declared.SizingWay.{SizingWay}
use Rattle.program_reader.specs.declared.SizingWay.TheVariants.{Size, Resolution}
use Rattle.program_reader.specs.Reading.{Stream, Read}
use Rattle.program_summary.specs.declared.Summary.{Summary}
use Rattle.grid.specs.declared.Reason.TheVariants.{BadAxis}

-- ---- the checks that a complete input meets

-- 2, 3 and 4: "the lowest applicable number", so before those of the head's size or resolution
abbrev pub stream_fault : List Float → List ℕ → Checked
stream_fault ps ts = none_fault (length ps) and_then numbers_fault 0 ps and_then missing_fault (points ps) ts

-- "four bytes of f32 or u32": 5 and 8, or 6 and 7, with the axes and the placement
abbrev pub sized_by : SizingWay → List Float → Outcome Laid
sized_by (Size size) ps = by_size ps size
sized_by (Resolution r) ps = by_resolution ps r

abbrev pub laid_of : SizingWay → List Float → List ℕ → Outcome Laid
laid_of way ps ts = stream_fault ps ts and_then sized_by way ps

-- "At most .. 32,768 cells (else 8)"
abbrev pub cells_many_fault : Axes → Checked
cells_many_fault r = fault_if (ltb 32768 (cells r)) BadAxis 0 (Ok tt)

-- ---- the map

-- what the six lines say: the axes, how many cells are Outside, Inside and surface, and the fill's cells left and scans
abbrev pub summary_of : Axes → FillCounts → List ℕ → Summary
summary_of r n labels = record { axes = r; outside = count_of OUTSIDE labels; inside = count_of INSIDE labels; surface = count_of SURFACE labels; left = n.left; scans = n.scans }

-- the counts of a fill of these marks
pub record Tallied (mode : Mode) (r : Axes) (marks : List ℕ) (o : Outcome Summary) : Type 0 where
  pub labels : List ℕ
  pub counts : FillCounts
  pub filled : Fills mode r marks counts labels
  pub is : o ≡ Ok (summary_of r counts labels)

-- the map of a mesh over a grid, or refusal 8 of too many cells
pub data Mapped (mode : Mode) (ps : List Float) (ts : List ℕ) (r : Axes) (placement : Placement) : Outcome Summary → Type 0 where
  many : {f : Refusal} → cells_many_fault r ≡ Err f → Mapped mode ps ts r placement (Err f)
  few : {o : Outcome Summary} → cells_many_fault r ≡ Ok tt → Tallied mode r (marked_labels ps ts r placement) o → Mapped mode ps ts r placement o

-- what is said of a complete input
pub data Sums (s : Stream) : Outcome Summary → Type 0 where
  refused : {f : Refusal} → laid_of s.head.way s.points s.triangles ≡ Err f → Sums s (Err f)
  laid : {l : Laid} {o : Outcome Summary} → laid_of s.head.way s.points s.triangles ≡ Ok l
      → Mapped s.head.mode s.points s.triangles l.axes l.placement o → Sums s o

-- the whole call: "The first faulty record ends the reading with 16, 17 or .. 1; only a complete input meets the other checks"
pub data Summarizes (input : List ℕ) : Outcome Summary → Type 0 where
  faulty : {f : Refusal} → Read input (Err f) → Summarizes input (Err f)
  complete : {s : Stream} {o : Outcome Summary} → Read input (Ok s) → Sums s o → Summarizes input o
