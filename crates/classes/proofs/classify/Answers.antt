-- `classes::classify` meets its contract: a refusal, or no class anywhere and then every part. Assumes nothing.
use Rattle.std.specs.Prelude.{Ok}
use native.Mathlib.Omega.{arith}
use mathlib.Core.Path.{◌≡◌, sym, ◌∙◌}
use mathlib.Core.List.{List}
use Prim.Native.Nat.{ℕ, ◌≤◌}
use lib.ListN.{length}
use Rattle.grid.specs.Answers.{Checked}
use Rattle.order.specs.Output.{over}
use Rattle.order.proofs.Lent.{fine_answer, fine_lent}
use Rattle.classes.specs.Classes.{no_class, class_of, classes_of, class_fault, NamedBelow, Ended}
use Rattle.classes.proofs.Ending.{class_fine}
use Rattle.classes.proofs.Naming.{classes_over, classes_then, classes_stay}
use Rattle.classes.proofs.classify.Goals as goal
use Rattle.classes.proofs.classify.Goals.{In_ok-class_fault, Start}

-- what is lent, the checks of it, and the buffer with the classes
abbrev lent : Start → List ℕ
lent c = c.args.classes.now

abbrev checks : Start → Checked
checks c = class_fault c.args.entries.now c.args.ends.now c.args.count (length (lent c))

-- the checks found nothing
fine : (c : In_ok-class_fault) → checks (goal.at.In_ok-class_fault c).Start ≡ Ok tt
fine c = sym c.class_fault.ensures ∙ c.in_ok-class_fault.was

ready : (c : Start) → checks c ≡ Ok tt → NamedBelow c.args.entries.now c.args.count × (c.args.count ≤ length (lent c)) × Ended c.args.ends.now (length c.args.entries.now)
ready c h = class_fine c.args.entries.now c.args.ends.now c.args.count (length (lent c)) h

abbrev classed : Start → List ℕ
classed c = over (classes_of c.args.entries.now c.args.ends.now c.args.count) (lent c)

pub classify_parts-requires : goal.classify_parts-requires
classify_parts-requires c = let w = ready (goal.at.classify_parts-requires c).Start (fine (goal.at.classify_parts-requires c).In_ok-class_fault) in record { named_below = (w.0, omega (arith, w.1, c.clear.ensures.size)); ended = w.2; classes = classes_stay _ _ _ _ c.clear.ensures }

pub returns : goal.returns
returns c = let ok = fine (goal.at.returns c).In_ok-class_fault in
    let rule = class_of c.args.entries.now c.args.ends.now in
    let done = classes_then c.args.count (λ t. no_class) rule (lent (goal.at.returns c).Start) _ _ c.clear.ensures c.classify_parts.ensures in record { answer = fine_answer (checks (goal.at.returns c).Start) (Ok tt) ok; classes_after = classes_over rule c.args.count (lent (goal.at.returns c).Start) _ (ready (goal.at.returns c).Start ok).1 done ∙ fine_lent (checks (goal.at.returns c).Start) (lent (goal.at.returns c).Start) (classed (goal.at.returns c).Start) ok }
