-- 01, Input bounds and refusals: "with the first place at fault". Definitions only.
use Rattle.std.specs.Prelude.{ℕ, zero, suc, ◌<◌, Bool, true, false, cond, ◌&&◌, ◌||◌, ◌≡◌, List, [], ◌∷◌, length, get_or}

-- what the first place at fault is: its element fails a test, and every one before it passes
pub record FirstAt {A : Type 0} (ok : A → Bool) (d : A) (xs : List A) (n : ℕ) : Type 0 where
  pub within : n < length xs
  pub fails : ok (get_or xs n d) ≡ false
  pub before : (k : ℕ) → k < n → ok (get_or xs k d) ≡ true

-- how it is found: the first place of a list whose element fails a test, or the length
unfoldable pub first_not : {A : Type 0} → (A → Bool) → List A → ℕ
first_not ok [] = 0
first_not ok (x ∷ xs) = cond (ok x) (suc (first_not ok xs)) 0

-- every element passes
unfoldable pub every : {A : Type 0} → (A → Bool) → List A → Bool
every ok [] = true
every ok (x ∷ xs) = ok x && every ok xs

-- some number below n passes
unfoldable pub some_below : ℕ → (ℕ → Bool) → Bool
some_below zero ok = false
some_below (suc n) ok = some_below n ok || ok n
