-- Demand 3: a map after any sequence of openings and closings. Definitions only.
use Rattle.std.specs.Prelude.{cond, ◌≡◌, List, [], ◌∷◌, map, ℕ, eqb, Ok}
use Rattle.grid.specs.declared.Axes.{Axes}
use Rattle.grid.specs.Answers.{Outcome, Ends}
use Rattle.grid.specs.Labels.{UNDEFINED, SURFACE}
use Rattle.fill.specs.declared.FillCounts.{FillCounts}
use Rattle.fill.specs.declared.Mode.TheVariants.{Flood}
use Rattle.fill.specs.Modes.{fill_fault, Means}
use Rattle.edits.specs.Edits.{Edit, edit_fault, Edited}

-- what one call promises of the map, whether it is refused or not
abbrev pub Call : Axes → Edit → List ℕ → Outcome ℕ → List ℕ → Type 0
Call r e before o after = Ends (edit_fault r before e) before (Edited r before e) o after

-- a map "after any sequence of openings and closings [...], refused ones included": the edits stand latest first, so that what holds after every such list holds after each of its edits
pub data After (r : Axes) (start : List ℕ) : List Edit → List ℕ → Type 0 where
  none : After r start [] start
  next : {es : List Edit} {l m : List ℕ} (e : Edit) (o : Outcome ℕ) → After r start es l → Call r e l o m → After r start (e ∷ es) m

-- "such a map": one that `fill` promises without cavities
abbrev pub IsFill : Axes → List ℕ → Type 0
IsFill r l = (marks : List ℕ) × (n : FillCounts) × Ends (fill_fault r marks) marks (Means Flood r marks) (Ok n) l

-- "the surface cells as they then stand", as marks
abbrev pub surfaces : List ℕ → List ℕ
surfaces l = map (λ v. cond (eqb v SURFACE) SURFACE UNDEFINED) l

-- "every label equals a fresh fill": whatever `fill` promises of these marks without cavities, it is this map, and it is no refusal
abbrev pub IsFresh : Axes → List ℕ → Type 0
IsFresh r l = (o : Outcome FillCounts) (f : List ℕ) → Ends (fill_fault r (surfaces l)) (surfaces l) (Means Flood r (surfaces l)) o f → (n : FillCounts) × (o ≡ Ok n) × (f ≡ l)
