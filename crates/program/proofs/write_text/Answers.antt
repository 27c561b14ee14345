-- `program::write_text` meets its contract: the text, and then its copy. Assumes nothing.
use native.Mathlib.Omega.{arith}
use mathlib.Core.List.{List}
use mathlib.Core.Path.{sym, ap, ◌∙◌}
use Prim.Native.Nat.{ℕ}
use lib.Seq.{length-take-le}
use Rattle.program.specs.Program.{text, copy_answer, copy_buffer}
use Rattle.program.proofs.Texts.{text_most, front_text}
use Rattle.program.proofs.write_text.Goals as goal

pub slice_bounds-text-end : goal.slice_bounds-text-end
slice_bounds-text-end c =
    omega (arith, c.put_text-n.ensures.ends, c.put_text-n.ensures.written.size, text_most c.args.said)

pub slice_bounds-copy_text-end : goal.slice_bounds-copy_text-end
slice_bounds-copy_text-end c =
    sym (length-take-le _ _ (omega (arith, c.put_text-n.ensures.ends, c.put_text-n.ensures.written.size, text_most c.args.said)))

pub returns : goal.returns
returns c = let a = c.args in
    let e = front_text (text a.said) _ _ _ (text_most a.said) c.put_text-n.ensures in record { answer = c.copy_text.ensures.answer ∙ ap (λ (xs : List ℕ). copy_answer xs a.output.now) e; output_after = c.copy_text.ensures.output_after ∙ ap (λ (xs : List ℕ). copy_buffer xs a.output.now) e }
