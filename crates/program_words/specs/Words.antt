-- 01, Program records: "numbers little-endian". Definitions only.
use Rattle.std.specs.Prelude.{List, ℕ, ◌+◌, ◌*◌, Float, get_or}
use Rattle.std.specs.Float.{binary32}
use Rattle.std.specs.Float.Ieee.{of_bits}

-- four bytes as one number, the lowest first
unfoldable pub word_at : List ℕ → ℕ → ℕ
word_at s at = get_or s at 0 + 256 * get_or s (at + 1) 0 + 65536 * get_or s (at + 2) 0 + 16777216 * get_or s (at + 3) 0

-- four bytes as an f32, by its bits
abbrev pub float_at : List ℕ → ℕ → Float
float_at s at = of_bits binary32 (word_at s at)
