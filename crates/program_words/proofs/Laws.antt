-- The pattern of a NaN. Assumes nothing.
use mathlib.Core.Path.{◌≡◌, refl, sym}
use mathlib.Core.Bool.{Bool, true, false, not, cond, ◌&&◌, false≢true}
use Prim.Native.Nat.{ℕ, zero, suc, ◌+◌, ◌/◌, ◌%◌}
use lib.Dec.{leb, eqb}
use lib.Ieee.{Float, nan, inf, binary32, odd, div, of_fields, of_bits}

nan_fields : (s : Bool) (x t : ℕ) → (eqb x 255 && not (eqb t 0)) ≡ true → of_fields binary32 s x t ≡ nan
unfolding of_fields
nan_fields s zero t h = absurd (false≢true h)
nan_fields s (suc x) t h = go (eqb (suc x) 255) (eqb t 0) (odd 24 s (8388608 + t) x 149) h
  where
    go : (a b : Bool) (v : Float) → (a && not b) ≡ true → cond a (cond b (inf s) nan) v ≡ nan
    go true false v e = refl
    go true true v e = absurd (false≢true e)
    go false b v e = absurd (false≢true e)

pub nan_pattern : (b : ℕ) → (eqb (b % 2147483648 / 8388608) 255 && not (eqb (b % 8388608) 0)) ≡ true → div binary32 (of_bits binary32 0) (of_bits binary32 0) ≡ of_bits binary32 b
unfolding of_bits div
nan_pattern b h = sym (nan_fields (leb 2147483648 b) (b % 2147483648 / 8388608) (b % 8388608) h)
