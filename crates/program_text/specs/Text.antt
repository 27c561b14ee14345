-- Text as bytes: decimal numbers, and lines of a word and numbers. Definitions only.
use Rattle.std.specs.Prelude.{cond, List, [], ◌∷◌, ◌++◌, ◌≡◌, ℕ, zero, suc, ◌+◌, ◌/◌, ◌%◌, ltb, length}
use Rattle.order.specs.Order.{join_all}
use Rattle.order.specs.Output.{Written}

-- a number in decimal, without zeros before it: the digit 0 is 48. k is more than its digits
unfoldable pub decimal_in : ℕ → ℕ → List ℕ
decimal_in zero n = []
decimal_in (suc k) n = cond (ltb n 10) ((48 + n) ∷ []) (decimal_in k (n / 10) ++ ((48 + n % 10) ∷ []))

-- 20 digits hold every number of 64 bits
abbrev pub decimal : ℕ → List ℕ
decimal n = decimal_in 20 n

-- a space, which is 32, before it
abbrev pub spaced : ℕ → List ℕ
spaced n = 32 ∷ decimal n

-- "one line each": a word, numbers, and the end of a line, which is 10
abbrev pub line : List ℕ → List ℕ → List ℕ
line word numbers = word ++ join_all spaced numbers ++ (10 ∷ [])

-- bytes stand in a buffer from a place on, the rest of it is as it was, and next is the place after them
pub record PutText (at : ℕ) (xs before after : List ℕ) (next : ℕ) : Type 0 where
  pub written : Written 0 at xs before after
  pub ends : next ≡ at + length xs
