-- A table in list order: which records lie before a key and which do not, and the two loops that search. Assumes nothing.
use mathlib.Core.Logic.{⊎_elim}
use mathlib.Core.Path.{◌≡◌, ap}
use mathlib.Core.List.{List}
use Prim.Native.Nat.{ℕ, ◌+◌, ◌-◌, ◌/◌, ◌≤◌, ◌<◌}
use native.Mathlib.Nat.{div-add-mod}
use native.Mathlib.Omega.{arith}
use Rattle.grid.proofs.First.{le_or_lt}
use Rattle.list_lookup.specs.Lookup.{key_at, Table, Behind, Ahead}

module _ (o : List ℕ) (n : ℕ) where
  pub behind_more : (a b x : ℕ) → a ≤ b → Behind o n a x → Behind o n b x
  behind_more a b x h w = record { most = w.most; under = λ p l. let k = w.under p l in omega arith }

  pub behind_none : (a : ℕ) → Behind o n a 0
  behind_none a = record { most = omega arith; under = λ p l. absurd (none p l) }
    where
      none : (p : ℕ) → p < 0 → ⊥
      none p l = omega arith

  pub ahead_none : (a : ℕ) → Ahead o n a n
  ahead_none a = record { most = omega arith; over = λ p l h. absurd (none p l h) }
    where
      none : (p : ℕ) → n ≤ p → p < n → ⊥
      none p l h = omega arith

  module _ (w : Table o n) (a m : ℕ) (l : m < n) where
    -- a record under the bound has the ones before it under it too
    pub behind_at : key_at o m < a → Behind o n a m
    behind_at h = record { most = omega arith; under = λ p g. let k = w.up p m g l in omega arith }

    -- and so has one at the bound
    pub behind_here : key_at o m ≡ a → Behind o n a m
    behind_here h = record { most = omega arith; under = λ p g. let k = w.up p m g l in omega arith }

    pub behind_past : key_at o m < a → Behind o n a (m + 1)
    behind_past h = record {
      most = omega arith;
      under = λ p g. ⊎_elim (λ e. let z : p ≡ m = omega arith in let k = ap (key_at o) z in omega arith) (λ e. let k = w.up p m e l in omega arith) (le_or_lt m p);
    }

    -- and one that is not has the ones after it
    pub ahead_at : a ≤ key_at o m → Ahead o n a m
    ahead_at h = record {
      most = omega arith;
      over = λ p g k. ⊎_elim (λ e. let z : p ≡ m = omega arith in let y = ap (key_at o) z in omega arith) (λ e. let y = w.up m p e k in omega arith) (le_or_lt p m);
    }

-- the middle of a window
pub middle : (lo hi : ℕ) → lo < hi → (lo ≤ lo + (hi - lo) / 2) × (lo + (hi - lo) / 2 < hi)
middle lo hi h =
    let d = div-add-mod (hi - lo) 2 in
    (omega arith, omega (arith, d))
