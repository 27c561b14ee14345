-- `program_summary::mark_and_tally` meets its contract: the marks, and then the fill. Assumes nothing.
use Rattle.std.specs.Prelude.{Ok}
use mathlib.Core.Path.{◌≡◌, sym, subst, ◌∙◌}
use mathlib.Core.List.{List}
use Prim.Native.Nat.{ℕ}
use Rattle.fill.specs.Modes.{fill_fault}
use Rattle.program_summary.proofs.Laws.{is_marked, marks_fine}
use Rattle.program_summary.proofs.mark_and_tally.Goals as goal

pub tally-requires : goal.tally-requires
tally-requires c =
    let q = c.args in
    subst (λ (l : List ℕ). fill_fault q.r l ≡ Ok tt) (sym (c.mark.ensures.labels_after ∙ is_marked q.ps.now q.ts.now q.r q.placement q.labels.now c.requires)) (marks_fine q.ps.now q.ts.now q.r q.placement q.labels.now c.requires)
