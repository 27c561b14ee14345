-- `planes::d_fault` meets its contract: two comparisons are the bound. Assumes nothing.
use Rattle.std.specs.Prelude.{Err}
use mathlib.Core.Bool.{not}
use mathlib.Core.Path.{sym, ap, ◌∙◌}
use Rattle.grid.proofs.Checks.{fault_here, fault_not}
use Rattle.planes.proofs.Sums.{d_bounds}
use Rattle.planes.proofs.d_fault.Goals as goal
use Rattle.grid.specs.declared.Reason.TheVariants.{BadNumber}
use Rattle.grid.specs.declared.Refusal.{Refusal}

pub returns-then-d : goal.returns-then-d
returns-then-d c = fault_not _ BadNumber 0 _ (ap not (sym (d_bounds c.args.d) ∙ c.if-d.true))

pub returns : goal.returns
returns c = ap (λ (f : Refusal). Err f) c.at.ensures ∙ fault_here _ BadNumber 0 _ (ap not (sym (d_bounds c.args.d) ∙ c.if-d.false))
