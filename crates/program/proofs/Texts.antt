-- How long a text is at most, and a text in a buffer. Assumes nothing.
use Rattle.std.specs.Prelude.{Ok, Err}
use mathlib.Core.List.{List, [], ◌∷◌, ◌++◌}
use mathlib.Core.Path.{◌≡◌, ap, ◌∙◌}
use Prim.Native.Nat.{ℕ, ◌≤◌}
use native.Mathlib.Omega.{arith}
use lib.ListN.{length, take, length-append}
use Rattle.grid.specs.Refusals.{number_of}
use Rattle.grid.specs.Answers.{Outcome}
use Rattle.order.proofs.Outputs.{front_written, written_over}
use Rattle.order.specs.Output.{over}
use Rattle.program_text.specs.Text.{line, PutText}
use Rattle.program_text.proofs.Laws.{line_most}
use Rattle.program_summary.specs.declared.Summary.{Summary}
use Rattle.program.specs.Program.{cells_word, outside_word, inside_word, surface_word, left_word, scans_word, refused_word, text}

pub text_most : (o : Outcome Summary) → length (text o) ≤ 256
text_most (Err f) = omega (arith, line_most refused_word (number_of f.reason ∷ []))
text_most (Ok n) =
    six (line cells_word (n.axes.r0 ∷ n.axes.r1 ∷ n.axes.r2 ∷ [])) (line outside_word (n.outside ∷ [])) (line inside_word (n.inside ∷ [])) (line surface_word (n.surface ∷ [])) (line left_word (n.left ∷ [])) (line scans_word (n.scans ∷ []))
    (line_most cells_word (n.axes.r0 ∷ n.axes.r1 ∷ n.axes.r2 ∷ []))
    (line_most outside_word (n.outside ∷ [])) (line_most inside_word (n.inside ∷ [])) (line_most surface_word (n.surface ∷ [])) (line_most left_word (n.left ∷ [])) (line_most scans_word (n.scans ∷ []))
  where
    six : (a b c d e f : List ℕ) → length a ≤ 69 → length b ≤ 29 → length c ≤ 28 → length d ≤ 29 → length e ≤ 26 → length f ≤ 27 → length (a ++ b ++ c ++ d ++ e ++ f) ≤ 256
    six a b c d e f h i j k l m =
        omega (arith, length-append (a ++ b ++ c ++ d ++ e) f, length-append (a ++ b ++ c ++ d) e, length-append (a ++ b ++ c) d, length-append (a ++ b) c, length-append a b)

-- a text that stands at the front of a buffer is what its first bytes are
pub front_text : (xs o m : List ℕ) (n : ℕ) → length xs ≤ length o → PutText 0 xs o m n → take n m ≡ xs
front_text xs o m n h p = ap (λ (k : ℕ). take k m) p.ends ∙ front_written 0 0 xs o m (omega arith) p.written

pub over_text : (xs o m : List ℕ) (n : ℕ) → length xs ≤ length o → PutText 0 xs o m n → m ≡ over xs o
over_text xs o m n h p = written_over 0 xs o m h p.written
