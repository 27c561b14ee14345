-- What a call answers and leaves in a lent buffer, once its checks are known. Assumes nothing.
use Rattle.std.specs.Prelude.{Ok, Err}
use mathlib.Core.Path.{◌≡◌, sym, ap}
use Rattle.grid.specs.declared.Refusal.{Refusal}
use Rattle.grid.specs.Answers.{Outcome, lent_after, Checked, ◌and_then◌}

module _ {A : Type 0} (checks : Checked) where
  pub refused_answer : (f : Refusal) (o : Outcome A) → Err f ≡ checks → Err f ≡ (checks and_then o)
  refused_answer f o e = ap (λ (x : Checked). (x and_then o)) e

  pub refused_lent : (f : Refusal) (before after : A) → Err f ≡ checks → before ≡ lent_after checks before after
  refused_lent f before after e = ap (λ (x : Checked). lent_after x before after) e

  pub fine_answer : (o : Outcome A) → checks ≡ Ok tt → o ≡ (checks and_then o)
  fine_answer o e = ap (λ (x : Checked). (x and_then o)) (sym e)

  pub fine_lent : (before after : A) → checks ≡ Ok tt → after ≡ lent_after checks before after
  fine_lent before after e = ap (λ (x : Checked). lent_after x before after) (sym e)
