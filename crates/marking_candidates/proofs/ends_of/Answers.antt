-- `marking_candidates::ends_of` meets its contract. Assumes nothing.
use mathlib.Core.Path.{◌≡◌, sym, ◌∙◌, subst}
use mir.Syntax.{w64}
use mir.Val.{to_z, of_z}
use Rattle.numbers.specs.Rounding.{cell_of}
use Rattle.marking_mesh.specs.Mesh.{first_of, past_of}
use Rattle.marking_mesh.specs.Ranges.{Held}
use Rattle.marking_mesh.proofs.Laws.{cell_read, on_axis_held}
use Rattle.marking_candidates.proofs.ends_of.Goals as goal
use Rattle.marking_candidates.proofs.ends_of.Goals.{After-cell_of-c}

-- the cells of the three coordinates as the machine has them
read : (c : After-cell_of-c) → (to_z w64 (of_z w64 c.cell_of-a.result) ≡ cell_of c.args.x) × (to_z w64 (of_z w64 c.cell_of-b.result) ≡ cell_of c.args.y) × (to_z w64 (of_z w64 c.cell_of-c.result) ≡ cell_of c.args.z)
read c = (cell_read c.args.x c.ranges.x c.cell_of-a.ensures, cell_read c.args.y c.ranges.y c.cell_of-b.ensures, cell_read c.args.z c.ranges.z c.cell_of-c.ensures)

held : (c : After-cell_of-c) → Held (to_z w64 (of_z w64 c.cell_of-a.result)) × Held (to_z w64 (of_z w64 c.cell_of-b.result)) × Held (to_z w64 (of_z w64 c.cell_of-c.result))
held c =
    let e = read c in
    let a = c.args in
    (subst Held (sym e.0) (on_axis_held a.axis a.x c.requires.axis c.requires.all_on_axis.0), subst Held (sym e.1) (on_axis_held a.axis a.y c.requires.axis c.requires.all_on_axis.1), subst Held (sym e.2) (on_axis_held a.axis a.z c.requires.axis c.requires.all_on_axis.2))

pub first_of-from-requires : goal.first_of-from-requires
first_of-from-requires c = held c

pub past_of-to-requires : goal.past_of-to-requires
past_of-to-requires c = record { held = held (goal.at.past_of-to-requires c).After-cell_of-c; axis = c.requires.axis }

pub returns : goal.returns
returns c =
    let e = read (goal.at.returns c).After-cell_of-c in
    let n = c.args.axis in
    record { begins = c.first_of-from.ensures ∙ (λ t. first_of (e.0 t) (e.1 t) (e.2 t)); stops = c.past_of-to.ensures ∙ (λ t. past_of n (e.0 t) (e.1 t) (e.2 t)) }
