-- How many labels are of a kind. Definitions only.
use Rattle.std.specs.Prelude.{ℕ, ◌+◌, Bool, cond, List, [], ◌∷◌, eqb}

-- how many labels pass a test
unfoldable pub count : (ℕ → Bool) → List ℕ → ℕ
count ok [] = 0
count ok (v ∷ l) = cond (ok v) 1 0 + count ok l

-- how many labels are v
abbrev pub count_of : ℕ → List ℕ → ℕ
count_of v = count (λ x. eqb x v)
