-- What the contracts of `write_text` and `run` say: two results that fit them coincide, the one number that they give, and what a refusal leaves. Assumes nothing.
use Rattle.std.specs.Prelude.{Ok, Err}
use mathlib.Core.List.{List, [], ◌∷◌}
use mathlib.Core.Path.{◌≡◌, sym, ap, ◌∙◌, subst}
use Prim.Native.Nat.{ℕ, ◌≤◌}
use lib.ListN.{length}
use Rattle.grid.specs.Answers.{Outcome, Gives}
use Rattle.grid.proofs.Checks.{gives_then, answered}
use Rattle.order.specs.Output.{room_fault}
use Rattle.order.proofs.Outputs.{finds_room, room_fine}
use Rattle.grid.proofs.Checks as check
use Rattle.grid.specs.declared.Refusal.{Refusal}
use Rattle.program_summary.specs.declared.Summary.{Summary}
use Rattle.program_summary.proofs.Once.{summary_one}
use Rattle.program.specs.Program.{text, text_answer, text_buffer, Runs}

-- ---- two results coincide

pub text_settled : (o : Outcome Summary) (out : List ℕ) (a b : Outcome ℕ) → a ≡ text_answer o out → b ≡ text_answer o out → a ≡ b
text_settled o out a b h k = (h ∙ sym k)

pub settled : (input out : List ℕ) (a b : Outcome ℕ) (x y : List ℕ) → Runs input out a x → Runs input out b y → (a ≡ b) × (x ≡ y)
settled input out a b x y p q =
    let e = summary_one input p.said q.said p.means q.means in
    ((p.answer ∙ ap (λ (o : Outcome Summary). text_answer o out) e ∙ sym q.answer), p.output ∙ ap (λ (o : Outcome Summary). text_buffer o out) e ∙ sym q.output)

-- ---- the one number: 14, and then nothing is written

pub text_numbers : (o : Outcome Summary) (out : List ℕ) → Gives (14 ∷ []) (text_answer o out)
text_numbers o out = gives_then (14 ∷ []) (room_fault (length out) (length (text o))) (Ok (length (text o))) (finds_room (14 ∷ []) (length out) (length (text o)) tt) (λ h. tt)

pub run_numbers : (input out : List ℕ) (a : Outcome ℕ) (after : List ℕ) → Runs input out a after → Gives (14 ∷ []) a
run_numbers input out a after p = subst (Gives (14 ∷ [])) (sym p.answer) (text_numbers p.said out)

pub refused_same : (input out : List ℕ) (f : Refusal) (after : List ℕ) → Runs input out (Err f) after → after ≡ out
refused_same input out f after p =
    p.output ∙ check.refused_same (room_fault (length out) (length (text p.said))) (length (text p.said)) f out _ (sym p.answer)

-- what was written lies in the output
pub run_fits : (input out : List ℕ) (n : ℕ) (after : List ℕ) → Runs input out (Ok n) after → n ≤ length out
run_fits input out n after p =
    let w = answered (room_fault (length out) (length (text p.said))) (Ok (length (text p.said))) n (sym p.answer) in
    let e : length (text p.said) ≡ n = cc in
    subst (λ (i : ℕ). i ≤ length out) e (room_fine (length out) (length (text p.said)) w.0)
