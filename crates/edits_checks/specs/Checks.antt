-- 01, Edits: the refusals of an opening or a closing. Definitions only.
use Rattle.std.specs.Prelude.{Bool, true, false, not, ◌&&◌, List, ℕ, eqb, ltb, Ok}
use Rattle.grid.specs.declared.Axes.{Axes}
use Rattle.grid.specs.declared.Cell.{Cell}
use Rattle.grid.specs.declared.LabelSet.{LabelSet}
use Rattle.grid.specs.Answers.{fault_if, Checked}
use Rattle.grid.specs.Checks.{label_ranges}
use Rattle.grid.specs.Grid.{at}
use Rattle.grid.specs.Labels.{OUTSIDE, SURFACE}
use Rattle.grid.specs.declared.Reason.TheVariants.{OutOfRange, WrongKind}

-- "Labels 6, 7, 8 only, else 11", after 8 and 9
abbrev pub map_labels : LabelSet
map_labels = label_ranges OUTSIDE SURFACE OUTSIDE SURFACE

-- "12: a cell [...] outside its range"
abbrev pub in_grid : Axes → Cell → Bool
in_grid r c = (ltb c.i r.r0 && ltb c.j r.r1) && ltb c.k r.r2

-- "13: opening a cell that is no surface, or closing one that is"; `surface` is whether the cell must be one
abbrev pub wrong_kind : Bool → ℕ → Bool
wrong_kind true label = not (eqb label SURFACE)
wrong_kind false label = eqb label SURFACE

abbrev pub cell_fault : Axes → List ℕ → Cell → Bool → Checked
cell_fault r l c surface = fault_if (not (in_grid r c)) OutOfRange 0 (fault_if (wrong_kind surface (at r l c)) WrongKind 0 (Ok tt))
