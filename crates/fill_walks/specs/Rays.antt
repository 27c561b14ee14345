-- What the loops of `fill_walks` say to each other: a walk by cell numbers, a stride at a time. proofs/Rays.antt joins it to walks by cells. Definitions only.
use Rattle.std.specs.Prelude.{cond, List, [], ◌∷◌, ℕ, zero, suc, ◌+◌, ◌*◌, ◌-◌, ◌≤◌, ◌<◌, min, eqb, get_or, set}
use Rattle.fill_walks.specs.declared.Phase.{Phase}
use Rattle.grid.specs.Labels.{SURFACE}

-- the n numbers that a stride of `add` less `sub` meets from c
unfoldable pub ray : ℕ → ℕ → ℕ → ℕ → List ℕ
ray c add sub zero = []
ray c add sub (suc n) = (c + add - sub) ∷ ray (c + add - sub) add sub n

-- they are below len, and no step falls below 0
unfoldable pub Along : ℕ → ℕ → ℕ → ℕ → ℕ → Type 0
Along len c add sub zero = Unit {0}
Along len c add sub (suc n) = (sub ≤ c + add) × (c + add - sub < len) × Along len (c + add - sub) add sub n

-- a walk along them
unfoldable pub walked_along : Phase → List ℕ → List ℕ → List ℕ
walked_along p [] l = l
walked_along p (c ∷ cs) l =
    cond (eqb (get_or l c 0) p.pass)
    (walked_along p cs (set l c p.todo))
    (cond (eqb (get_or l c 0) SURFACE) (set l c p.mark) l)

-- place a of n on an axis, at number c and a stride of s, is within the labels to both ends of the axis
pub record LineFits (c s a n len : ℕ) : Type 0 where
  pub step : s ≤ 65536
  pub inside : a < n
  pub low : a * s ≤ c
  pub high : c + (n - (a + 1)) * s < len

-- up the axis, then down
unfoldable pub walked_both : Phase → ℕ → ℕ → ℕ → ℕ → List ℕ → List ℕ
walked_both p c s a n l = walked_along p (ray c 0 s (min a 64)) (walked_along p (ray c s 0 (min (n - (a + 1)) 64)) l)
