-- The refusals 8, 9 and 11 of 01's table. Definitions only.
use Rattle.std.specs.Prelude.{Ok, ℕ, Bool, not, ◌&&◌, ◌||◌, List, eqb, ltb, leb, length}
use Rattle.grid.specs.declared.Axes.{Axes}
use Rattle.grid.specs.declared.Reason.{Reason}
use Rattle.grid.specs.declared.Reason.TheVariants.{BadAxis, BadBuffer, BadLabel}
use Rattle.grid.specs.declared.LabelSet.{LabelSet}
use Rattle.grid.specs.declared.LabelRange.{LabelRange}
use Rattle.grid.specs.Answers.{Checked, fault_if, ◌and_then◌}
use Rattle.grid.specs.First.{first_not}
use Rattle.grid.specs.Grid.{cells}

-- a refusal where some element of a list fails a test: its place is made of the first such element's
abbrev pub first_fault : {A : Type 0} → Reason → (ℕ → ℕ) → (A → Bool) → List A → Checked
first_fault reason place ok xs = fault_if (ltb (first_not ok xs) (length xs)) reason (place (first_not ok xs)) (Ok tt)

-- "8: an axis of 0 or more than 256 cells"; the place is the axis
abbrev pub bad_axis : ℕ → Bool
bad_axis n = eqb n 0 || ltb 256 n

abbrev pub axes_fault : Axes → Checked
axes_fault r = fault_if (bad_axis r.r0) BadAxis 0 (fault_if (bad_axis r.r1) BadAxis 1 (fault_if (bad_axis r.r2) BadAxis 2 (Ok tt)))

-- "9: label buffer length differs from the product of the axes"
abbrev pub buffer_fault : Axes → ℕ → Checked
buffer_fault r len = fault_if (not (eqb len (cells r))) BadBuffer 0 (Ok tt)

abbrev pub grid_fault : Axes → ℕ → Checked
grid_fault r len = axes_fault r and_then buffer_fault r len

-- a label of the set: in one range or in the other
abbrev pub in_range : LabelRange → ℕ → Bool
in_range a v = leb a.low v && leb v a.high

abbrev pub takes : LabelSet → ℕ → Bool
takes s v = in_range s.one v || in_range s.other v

-- "11: a label the call does not take"; the place is the label's cell number
abbrev pub labels_fault : LabelSet → List ℕ → Checked
labels_fault s l = first_fault BadLabel (λ n. n) (takes s) l

-- the three of a map, in the order of their numbers
abbrev pub map_fault : LabelSet → Axes → List ℕ → Checked
map_fault s r l = grid_fault r (length l) and_then labels_fault s l

-- a set of labels by its labelRanges
abbrev pub label_ranges : ℕ → ℕ → ℕ → ℕ → LabelSet
label_ranges a b c d = record { one = record { low = a; high = b }; other = record { low = c; high = d } }
