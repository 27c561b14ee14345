-- The two tables of specs/Corners.antt: how many rows they have, how long each is, and which corners the triangles name. Assumes nothing.
use mathlib.Core.Bool.{Bool, true}
use mathlib.Core.Path.{◌≡◌, refl}
use mathlib.Core.List.{List, [], ◌∷◌}
use Prim.Native.Nat.{ℕ, zero, suc, ◌<◌}
use native.Mathlib.Omega.{arith}
use lib.Dec.{eqb, ltb}
use lib.ListN.{length, get_or}
use borrow.Author.Tests.{eqb-true, ltb-true}
use Rattle.grid.specs.First.{every}
use Rattle.grid.proofs.First.{before_first, every_passes, both_true}
use lib.Ieee.{Float}
use Rattle.grid.specs.declared.Cell.{Cell}
use Rattle.grid.specs.declared.Placement.{Placement}
use Rattle.boxes_corners.specs.Corners.{corners, corner_of, faces, face_of}

pub eight_corners : length corners ≡ 8
unfolding corners
eight_corners = refl

pub twelve_faces : length faces ≡ 12
unfolding faces
twelve_faces = refl

-- ---- one computed test for each rule

abbrev three : {A : Type 0} → List A → Bool
three row = eqb (length row) 3

abbrev named : List ℕ → Bool
named row = every (λ v. ltb v 8) row

corners_three : every three corners ≡ true
unfolding corners every
corners_three = refl

faces_three : every three faces ≡ true
unfolding faces every
faces_three = refl

faces_named : every named faces ≡ true
unfolding faces every
faces_named = refl

-- ---- and what it says of each row

-- three numbers a row
each_three : {A : Type 0} (rows : List (List A)) → every three rows ≡ true → (k : ℕ) → k < length rows → length (get_or rows k []) ≡ 3
each_three rows h k l = eqb-true (length (get_or rows k [])) 3 (before_first three [] rows k (omega (arith, every_passes three rows h)))

pub corner_row : (v : ℕ) → v < 8 → length (get_or corners v []) ≡ 3
corner_row v h = each_three corners corners_three v (omega (arith, eight_corners))

pub face_row : (t : ℕ) → t < 12 → length (get_or faces t []) ≡ 3
face_row t h = each_three faces faces_three t (omega (arith, twelve_faces))

-- what every element passes, and what is read past the end, each passes
each_passes : {A : Type 0} (ok : A → Bool) (d : A) → ok d ≡ true → (xs : List A) → every ok xs ≡ true → (k : ℕ) → ok (get_or xs k d) ≡ true
unfolding every
each_passes ok d e [] h k = e
each_passes ok d e (x ∷ xs) h zero = (both_true (ok x) (every ok xs) h).0
each_passes ok d e (x ∷ xs) h (suc k) = each_passes ok d e xs (both_true (ok x) (every ok xs) h).1 k

-- a triangle names three of the eight corners
pub face_corner : (t x : ℕ) → get_or (get_or faces t []) x 0 < 8
unfolding every
face_corner t x = ltb-true (get_or (get_or faces t []) x 0) 8 (each_passes (λ v. ltb v 8) 0 refl (get_or faces t []) (each_passes named [] refl faces faces_named t) x)

-- ---- a row of a table, placed

pub corner_length : (p : Placement) (c : Cell) (shift : List Float) → length (corner_of p c shift) ≡ 3
unfolding corner_of
corner_length p c shift = refl

pub face_length : (base : ℕ) (t : List ℕ) → length (face_of base t) ≡ 3
unfolding face_of
face_length base t = refl
