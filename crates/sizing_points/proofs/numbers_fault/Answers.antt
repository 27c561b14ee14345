-- `sizing_points::numbers_fault` meets its contract: all numbers are in bounds exactly if the first place is the length. Assumes nothing.
use Rattle.std.specs.Prelude.{Ok, Err}
use borrow.Author.Rules.{rules}
use borrow.Author.Tests.{lt-ltb, le-ltb}
use mathlib.Core.Path.{sym, ap, ◌∙◌, subst}
use Prim.Native.Nat.{ℕ, ◌+◌, ◌<◌}
use lib.ListN.{length}
use Rattle.grid.specs.declared.Reason.TheVariants.{BadNumber}
use Rattle.grid.specs.declared.Refusal.{Refusal}
use Rattle.grid.specs.Answers.{refuses}
use Rattle.grid.specs.First.{first_not}
use Rattle.grid.proofs.First.{every_passes, some_fails}
use Rattle.grid.proofs.Checks.{fault_here, fault_not}
use Rattle.sizing_points.specs.Points.{bounded}
use Rattle.sizing_points.proofs.numbers_fault.Goals as goal

-- the place is within the numbers
placed : (c : goal.After-first_out) → c.first_out.result < length c.args.ps.now
placed c =
    let ps = c.args.ps.now in
    subst (λ (n : ℕ). n < length ps) (sym c.first_out.ensures) (some_fails (bounded 20) ps (sym c.all_in_bounds.ensures ∙ c.if-all_in_bounds.false))

pub returns-then-all_in_bounds : goal.returns-then-all_in_bounds
returns-then-all_in_bounds c =
    let a = c.args in
    let ps = a.ps.now in
    let p = first_not (bounded 20) ps in
    fault_not _ BadNumber (a.before + p) (Ok tt) (le-ltb p (length ps) (every_passes (bounded 20) ps (sym c.all_in_bounds.ensures ∙ c.if-all_in_bounds.true)))

pub overflow_add-before : goal.overflow_add-before
overflow_add-before c = let h = placed c in search rules

pub returns : goal.returns
returns c =
    let a = c.args in
    let ps = a.ps.now in
    let p = first_not (bounded 20) ps in
    ap (λ (f : Refusal). Err f) c.at.ensures
    ∙ ap (λ (n : ℕ). refuses BadNumber (a.before + n)) c.first_out.ensures
    ∙ fault_here _ BadNumber (a.before + p) (Ok tt) (lt-ltb p (length ps) (some_fails (bounded 20) ps (sym c.all_in_bounds.ensures ∙ c.if-all_in_bounds.false)))
