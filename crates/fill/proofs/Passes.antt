-- A law of the passes of a fill: the last step with cavities. Assumes nothing.
use mathlib.Core.Path.{◌≡◌, refl, sym, ap, ◌∙◌}
use mathlib.Core.List.{List, [], ◌∷◌, map}
use Prim.Native.Nat.{ℕ, zero, suc, ◌≤◌, ◌<◌}
use native.Mathlib.Omega.{arith}
use borrow.Author.Tests.{le-leb, lt-leb}
use Rattle.grid.specs.Passes.{becomes}

-- the last step with cavities is two passes
pub surfaces_back : (l : List ℕ) → map (becomes 3 3 8) (map (becomes 4 5 8) l) ≡ map (becomes 3 5 8) l
surfaces_back [] = refl
surfaces_back (x ∷ l) = λ t. back x t ∷ surfaces_back l t
  where
    stays : (low high v : ℕ) → low ≤ v → high < v → becomes low high 8 v ≡ v
    stays low high v p q = rw (le-leb low v p, lt-leb v high q)

    back : (v : ℕ) → becomes 3 3 8 (becomes 4 5 8 v) ≡ becomes 3 5 8 v
    back zero = refl
    back (suc zero) = refl
    back (suc (suc zero)) = refl
    back (suc (suc (suc zero))) = refl
    back (suc (suc (suc (suc zero)))) = refl
    back (suc (suc (suc (suc (suc zero))))) = refl
    back (suc (suc (suc (suc (suc (suc v)))))) =
        let w = suc (suc (suc (suc (suc (suc v))))) in
        ap (becomes 3 3 8) (stays 4 5 w (omega arith) (omega arith)) ∙ stays 3 3 w (omega arith) (omega arith) ∙ sym (stays 3 5 w (omega arith) (omega arith))
