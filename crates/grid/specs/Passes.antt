-- A pass over labels in memory order. Definitions only.
use Rattle.std.specs.Prelude.{cond, ◌&&◌, ◌⊎◌, ◌≡◌, List, ℕ, ◌≤◌, ◌<◌, leb, length, get_or}

-- a label from low to high becomes new
abbrev pub becomes : ℕ → ℕ → ℕ → ℕ → ℕ
becomes low high new v = cond (leb low v && leb v high) new v

-- the labels at the places from a up to, not including, b go by a rule of place and label, and the others stay
pub record Within (a b : ℕ) (rule : ℕ → ℕ → ℕ) (before after : List ℕ) : Type 0 where
  pub size : length after ≡ length before
  pub passed : (n : ℕ) → a ≤ n → n < b → get_or after n 0 ≡ rule n (get_or before n 0)
  pub others : (n : ℕ) → (n < a) ⊎ (b ≤ n) → get_or after n 0 ≡ get_or before n 0
