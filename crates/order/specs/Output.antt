-- Lent outputs: refusal 14, and what a list that is written leaves. Definitions only.
use Rattle.std.specs.Prelude.{◌⊎◌, ◌≡◌, List, ◌++◌, ℕ, ◌+◌, ◌≤◌, ◌<◌, ltb, length, get_or, drop, Ok}
use Rattle.grid.specs.Answers.{fault_if, Checked}
use Rattle.grid.specs.declared.Reason.TheVariants.{NoRoom}

-- "14: an output buffer is shorter than the answer": of a buffer's length and of the numbers that the answer has
abbrev pub room_fault : ℕ → ℕ → Checked
room_fault len need = fault_if (ltb len need) NoRoom 0 (Ok tt)

-- 01, Input bounds and refusals: "on success, output past the answer stays as it was". The buffer o with xs written over its front
unfoldable pub over : {A : Type 0} → List A → List A → List A
over xs o = xs ++ drop (length xs) o

-- xs stands in a buffer from a place on, and the rest of it is as it was; d is what is read past its end
pub record Written {A : Type 0} (d : A) (at : ℕ) (xs before after : List A) : Type 0 where
  pub size : length after ≡ length before
  pub there : (n : ℕ) → n < length xs → get_or after (at + n) d ≡ get_or xs n d
  pub others : (n : ℕ) → (n < at) ⊎ (at + length xs ≤ n) → get_or after n d ≡ get_or before n d
