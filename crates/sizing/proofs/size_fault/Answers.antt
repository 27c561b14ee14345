-- `sizing::size_fault` meets its contract: the code's test is the definition's. Assumes nothing.
use mathlib.Core.Bool.{not}
use mathlib.Core.Path.{sym, ap, ◌∙◌}
use Rattle.std.specs.Prelude.{Err}
use Rattle.grid.specs.declared.Reason.TheVariants.{BadSize}
use Rattle.grid.specs.declared.Refusal.{Refusal}
use Rattle.grid.proofs.Checks.{fault_here, fault_not}
use Rattle.sizing.proofs.Laws.{size_tests}
use Rattle.sizing.proofs.size_fault.Goals as goal

pub returns-then-size : goal.returns-then-size
returns-then-size c = fault_not _ BadSize 0 _ (ap not (sym (size_tests c.args.size) ∙ c.if-size.true))

pub returns : goal.returns
returns c = ap (λ (f : Refusal). Err f) c.at.ensures ∙ fault_here _ BadSize 0 _ (ap not (sym (size_tests c.args.size) ∙ c.if-size.false))
