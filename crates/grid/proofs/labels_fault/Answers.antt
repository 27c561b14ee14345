-- `grid::labels_fault` meets its contract: all labels are taken exactly if the first place is the length. Assumes nothing.
use Rattle.std.specs.Prelude.{Ok, Err}
use borrow.Author.Tests.{lt-ltb, le-ltb}
use mathlib.Core.Path.{sym, ap, ◌∙◌}
use lib.ListN.{length}
use Rattle.grid.specs.declared.Refusal.{Refusal}
use Rattle.grid.specs.Answers.{refuses}
use Rattle.grid.specs.declared.Reason.TheVariants.{BadLabel}
use Rattle.grid.specs.First.{first_not}
use Rattle.grid.specs.Checks.{takes}
use Rattle.grid.proofs.First.{every_passes, some_fails}
use Rattle.grid.proofs.Checks.{fault_here, fault_not}
use Rattle.grid.proofs.labels_fault.Goals as goal

pub returns-then-all_taken : goal.returns-then-all_taken
returns-then-all_taken c =
    let a = c.args in
    let l = a.labels.now in
    let p = first_not (takes a.set) l in
    fault_not _ BadLabel p (Ok tt) (le-ltb p (length l) (every_passes (takes a.set) l (sym c.all_taken.ensures ∙ c.if-all_taken.true)))

pub returns : goal.returns
returns c =
    let a = c.args in
    let l = a.labels.now in
    let p = first_not (takes a.set) l in
    ap (λ (f : Refusal). Err f) c.at.ensures
    ∙ ap (refuses BadLabel) c.first_not_taken.ensures
    ∙ fault_here _ BadLabel p (Ok tt) (lt-ltb p (length l) (some_fails (takes a.set) l (sym c.all_taken.ensures ∙ c.if-all_taken.false)))
