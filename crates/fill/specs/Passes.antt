-- What the modes of a fill ask of the labels. Definitions only.
use Rattle.std.specs.Prelude.{◌⊎◌, ◌≡◌, List, ℕ, ◌<◌, length, get_or}
use Rattle.grid.specs.Labels.{UNDEFINED, SURFACE}

-- every label is 0 or 8
abbrev pub Marks : List ℕ → Type 0
Marks l = (n : ℕ) → n < length l → (get_or l n 0 ≡ UNDEFINED) ⊎ (get_or l n 0 ≡ SURFACE)
