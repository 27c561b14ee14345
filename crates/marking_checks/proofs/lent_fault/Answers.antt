-- `marking_checks::lent_fault` meets its contract: the code's test is the definition's. Assumes nothing.
use Rattle.std.specs.Prelude.{Err}
use mathlib.Core.Bool.{not}
use mathlib.Core.Path.{sym, ap, ◌∙◌}
use Rattle.grid.proofs.Checks.{fault_here, fault_not}
use Rattle.marking_mesh.proofs.Laws.{lent_tests}
use Rattle.marking_checks.proofs.lent_fault.Goals as goal
use Rattle.grid.specs.declared.Reason.TheVariants.{BadSize}
use Rattle.grid.specs.declared.Refusal.{Refusal}

pub returns-then-scale-reciprocal : goal.returns-then-scale-reciprocal
returns-then-scale-reciprocal c = fault_not _ BadSize 0 _ (ap not (sym (lent_tests c.args.placement) ∙ c.if-scale-reciprocal.true))

pub returns : goal.returns
returns c = ap (λ (f : Refusal). Err f) c.at.ensures ∙ fault_here _ BadSize 0 _ (ap not (sym (lent_tests c.args.placement) ∙ c.if-scale-reciprocal.false))
