-- 01, Program records and Sample maps: the program's text, and the whole run. Definitions only.
use Rattle.std.specs.Prelude.{List, [], ◌∷◌, ◌++◌, ◌≡◌, ℕ, length, Ok, Err}
use Rattle.grid.specs.Refusals.{number_of}
use Rattle.grid.specs.Answers.{Outcome, lent_after, ◌and_then◌}
use Rattle.order.specs.Output.{room_fault, over}
use Rattle.program_text.specs.Text.{line}
use Rattle.program_summary.specs.declared.Summary.{Summary}
use Rattle.program_summary.specs.Summary.{Summarizes}

-- ---- the text: the words are ASCII

abbrev pub cells_word : List ℕ
cells_word = 99 ∷ 101 ∷ 108 ∷ 108 ∷ 115 ∷ []

abbrev pub outside_word : List ℕ
outside_word = 111 ∷ 117 ∷ 116 ∷ 115 ∷ 105 ∷ 100 ∷ 101 ∷ []

abbrev pub inside_word : List ℕ
inside_word = 105 ∷ 110 ∷ 115 ∷ 105 ∷ 100 ∷ 101 ∷ []

abbrev pub surface_word : List ℕ
surface_word = 115 ∷ 117 ∷ 114 ∷ 102 ∷ 97 ∷ 99 ∷ 101 ∷ []

abbrev pub left_word : List ℕ
left_word = 108 ∷ 101 ∷ 102 ∷ 116 ∷ []

abbrev pub scans_word : List ℕ
scans_word = 115 ∷ 99 ∷ 97 ∷ 110 ∷ 115 ∷ []

abbrev pub refused_word : List ℕ
refused_word = 114 ∷ 101 ∷ 102 ∷ 117 ∷ 115 ∷ 101 ∷ 100 ∷ []

-- "Output whole, one line each: `cells 3 3 3`, `outside 25`, `inside 0`, `surface 2`, `left 0`, `scans 2`"
abbrev pub six_lines : Summary → List ℕ
six_lines n =
    line cells_word (n.axes.r0 ∷ n.axes.r1 ∷ n.axes.r2 ∷ [])
    ++ line outside_word (n.outside ∷ [])
    ++ line inside_word (n.inside ∷ [])
    ++ line surface_word (n.surface ∷ [])
    ++ line left_word (n.left ∷ [])
    ++ line scans_word (n.scans ∷ [])

-- "A refusal prints one line, `refused ` and its number, and nothing else"
abbrev pub text : Outcome Summary → List ℕ
text (Ok n) = six_lines n
text (Err f) = line refused_word (number_of f.reason ∷ [])

-- ---- a text in a lent output: how many bytes, or 14, and the output after it

abbrev pub copy_answer : List ℕ → List ℕ → Outcome ℕ
copy_answer xs out = room_fault (length out) (length xs) and_then Ok (length xs)

abbrev pub copy_buffer : List ℕ → List ℕ → List ℕ
copy_buffer xs out = lent_after (room_fault (length out) (length xs)) out (over xs out)

abbrev pub text_answer : Outcome Summary → List ℕ → Outcome ℕ
text_answer o out = copy_answer (text o) out

abbrev pub text_buffer : Outcome Summary → List ℕ → List ℕ
text_buffer o out = copy_buffer (text o) out

-- ---- the whole run: what is said of the input, as text in the output

pub record Runs (input out : List ℕ) (a : Outcome ℕ) (after : List ℕ) : Type 0 where
  pub said : Outcome Summary
  pub means : Summarizes input said
  pub answer : a ≡ text_answer said out
  pub output : after ≡ text_buffer said out
