-- `fill::fill` meets its contract: the checks, then the fill. Assumes nothing.
use Rattle.std.specs.Prelude.{Ok}
use mathlib.Core.Path.{◌≡◌, sym, ap, subst, ◌∙◌}
use mathlib.Core.List.{List}
use Prim.Native.Nat.{ℕ}
use Rattle.grid.specs.declared.Axes.{Axes}
use Rattle.grid.specs.Answers.{Ends, Checked}
use Rattle.grid.specs.declared.LabelSet.{LabelSet}
use Rattle.grid.specs.Checks.{map_fault}
use Rattle.grid.proofs.Checks.{map_fine}
use Rattle.fill.specs.Modes.{marks, fill_fault, Fills, Means}
use Rattle.fill.proofs.Meaning.{only_marks, fills_mean}
use Rattle.fill.proofs.fill.Goals as goal

-- what the checks found is what the definition says
found : (s : LabelSet) (f : Checked) (r : Axes) (l : List ℕ) → s ≡ marks → f ≡ map_fault s r l → f ≡ fill_fault r l
found s f r l p q = q ∙ ap (λ (x : LabelSet). map_fault x r l) p

pub fill_by-requires : goal.fill_by-requires
fill_by-requires c =
    let a = c.args in
    let e = map_fine marks a.r a.labels.now (sym (found _ _ a.r a.labels.now c.taken_marks.ensures c.map_fault.ensures) ∙ c.in_ok-map_fault.was) in
    (e.0, only_marks a.labels.now e.1)

pub returns : goal.returns
returns c = let a = c.args in
    let fine = sym (found _ _ a.r a.labels.now c.taken_marks.ensures c.map_fault.ensures) ∙ c.in_ok-map_fault.was in
    let e = map_fine marks a.r a.labels.now fine in
    let means = fills_mean a.mode a.r a.labels.now c.fill_by.new.labels c.fill_by.result e.0.size (only_marks a.labels.now e.1) c.fill_by.ensures in record { ends = subst (λ (x : Checked). Ends x a.labels.now (Fills a.mode a.r a.labels.now) (Ok c.fill_by.result) c.fill_by.new.labels) (sym fine) c.fill_by.ensures; means = subst (λ (x : Checked). Ends x a.labels.now (Means a.mode a.r a.labels.now) (Ok c.fill_by.result) c.fill_by.new.labels) (sym fine) means }
