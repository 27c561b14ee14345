-- The cells in list order lie in the grid, and their keys ascend. Assumes nothing.
use mathlib.Core.Bool.{Bool, true}
use mathlib.Core.Path.{◌≡◌}
use mathlib.Core.List.{List, [], ◌∷◌, ◌++◌}
use Prim.Native.Nat.{ℕ, zero, suc, ◌+◌, ◌*◌, ◌≤◌, ◌<◌}
use native.Mathlib.Omega.{arith}
use lib.ListN.{length, get_or}
use Rattle.grid.specs.declared.Axes.{Axes}
use Rattle.grid.specs.declared.Cell.{Cell}
use Rattle.grid.specs.Grid.{Sound, InGrid}
use Rattle.order.specs.Order.{row, rows, slabs, in_order, keep, key}
use Rattle.order.proofs.Orders.{by_bool}

-- ---- ascending keys, from lo up to, not including, hi

unfoldable Asc : ℕ → ℕ → List Cell → Type 0
Asc lo hi [] = lo ≤ hi
Asc lo hi (c ∷ cs) = (lo ≤ key c) × Asc (key c + 1) hi cs

asc_low : (lo lo' hi : ℕ) (cs : List Cell) → lo' ≤ lo → Asc lo hi cs → Asc lo' hi cs
unfolding Asc
asc_low lo lo' hi [] h a = omega arith
asc_low lo lo' hi (c ∷ cs) h a = (omega (arith, a.0), a.1)

asc_high : (lo hi hi' : ℕ) (cs : List Cell) → hi ≤ hi' → Asc lo hi cs → Asc lo hi' cs
unfolding Asc
asc_high lo hi hi' [] h a = omega arith
asc_high lo hi hi' (c ∷ cs) h a = (a.0, asc_high (key c + 1) hi hi' cs h a.1)

asc_append : (lo mid hi : ℕ) (xs ys : List Cell) → Asc lo mid xs → Asc mid hi ys → Asc lo hi (xs ++ ys)
unfolding Asc
asc_append lo mid hi [] ys a b = asc_low mid lo hi ys a b
asc_append lo mid hi (c ∷ xs) ys a b = (a.0, asc_append (key c + 1) mid hi xs ys a.1 b)

asc_keep : (ok : Cell → Bool) (lo hi : ℕ) (cs : List Cell) → Asc lo hi cs → Asc lo hi (keep ok cs)
unfolding Asc keep
asc_keep ok lo hi [] a = a
asc_keep ok lo hi (c ∷ cs) a =
    by_bool (ok c)
    (λ e. rw e (a.0, asc_keep ok (key c + 1) hi cs a.1))
    (λ e. rw e (asc_low (key c + 1) lo hi (keep ok cs) (omega (arith, a.0)) (asc_keep ok (key c + 1) hi cs a.1)))

asc_row : (i j k n : ℕ) → Asc (i * 65536 + j * 256 + k) (i * 65536 + j * 256 + (k + n)) (row i j k n)
unfolding Asc row
asc_row i j k zero = omega arith
asc_row i j k (suc n) = (
  omega arith,
  asc_low (i * 65536 + j * 256 + (k + 1)) (i * 65536 + j * 256 + k + 1) (i * 65536 + j * 256 + (k + suc n)) (row i j (k + 1) n) (omega arith)
      (asc_high (i * 65536 + j * 256 + (k + 1)) (i * 65536 + j * 256 + (k + 1 + n)) (i * 65536 + j * 256 + (k + suc n)) (row i j (k + 1) n) (omega arith) (asc_row i j (k + 1) n)),
)

asc_rows : (z i j n : ℕ) → z ≤ 256 → Asc (i * 65536 + j * 256) (i * 65536 + (j + n) * 256) (rows z i j n)
unfolding Asc rows
asc_rows z i j zero h = omega arith
asc_rows z i j (suc n) h =
    asc_append (i * 65536 + j * 256) (i * 65536 + (j + 1) * 256) (i * 65536 + (j + suc n) * 256) (row i j 0 z) (rows z i (j + 1) n)
    (asc_low (i * 65536 + j * 256 + 0) (i * 65536 + j * 256) (i * 65536 + (j + 1) * 256) (row i j 0 z) (omega arith) (asc_high (i * 65536 + j * 256 + 0) (i * 65536 + j * 256 + (0 + z)) (i * 65536 + (j + 1) * 256) (row i j 0 z) (omega arith) (asc_row i j 0 z)))
    (asc_high (i * 65536 + (j + 1) * 256) (i * 65536 + (j + 1 + n) * 256) (i * 65536 + (j + suc n) * 256) (rows z i (j + 1) n) (omega arith) (asc_rows z i (j + 1) n h))

asc_slabs : (y z i n : ℕ) → y ≤ 256 → z ≤ 256 → Asc (i * 65536) ((i + n) * 65536) (slabs y z i n)
unfolding Asc slabs
asc_slabs y z i zero g h = omega arith
asc_slabs y z i (suc n) g h =
    asc_append (i * 65536) ((i + 1) * 65536) ((i + suc n) * 65536) (rows z i 0 y) (slabs y z (i + 1) n)
    (asc_low (i * 65536 + 0 * 256) (i * 65536) ((i + 1) * 65536) (rows z i 0 y) (omega arith) (asc_high (i * 65536 + 0 * 256) (i * 65536 + (0 + y) * 256) ((i + 1) * 65536) (rows z i 0 y) (omega arith) (asc_rows z i 0 y h)))
    (asc_high ((i + 1) * 65536) ((i + 1 + n) * 65536) ((i + suc n) * 65536) (slabs y z (i + 1) n) (omega arith) (asc_slabs y z (i + 1) n g h))

-- an element's key is not below the first, and two ascend
asc_least : (lo hi : ℕ) (cs : List Cell) (d : Cell) → Asc lo hi cs → (p : ℕ) → p < length cs → lo ≤ key (get_or cs p d)
unfolding Asc
asc_least lo hi [] d a p h = absurd (none p h)
  where
    none : (p : ℕ) → p < 0 → ⊥
    none p h = omega arith
asc_least lo hi (c ∷ cs) d a zero h = a.0
asc_least lo hi (c ∷ cs) d a (suc p) h = omega (arith, a.0, asc_least (key c + 1) hi cs d a.1 p (omega arith))

asc_two : (lo hi : ℕ) (cs : List Cell) (d : Cell) → Asc lo hi cs → (p q : ℕ) → p < q → q < length cs → key (get_or cs p d) < key (get_or cs q d)
unfolding Asc
asc_two lo hi [] d a p q l h = absurd (none q h)
  where
    none : (p : ℕ) → p < 0 → ⊥
    none p h = omega arith
asc_two lo hi (c ∷ cs) d a zero zero l h = absurd (none l)
  where
    none : 0 < 0 → ⊥
    none l = omega arith
asc_two lo hi (c ∷ cs) d a zero (suc q) l h = omega (arith, asc_least (key c + 1) hi cs d a.1 q (omega arith))
asc_two lo hi (c ∷ cs) d a (suc p) zero l h = absurd (none p l)
  where
    none : (p : ℕ) → suc p < 0 → ⊥
    none p l = omega arith
asc_two lo hi (c ∷ cs) d a (suc p) (suc q) l h = asc_two (key c + 1) hi cs d a.1 p q (omega arith) (omega arith)

pub keys_up : (r : Axes) (ok : Cell → Bool) (d : Cell) → Sound r → (p q : ℕ) → p < q → q < length (keep ok (in_order r)) → key (get_or (keep ok (in_order r)) p d) < key (get_or (keep ok (in_order r)) q d)
keys_up r ok d s p q l h =
    asc_two (0 * 65536) ((0 + r.r0) * 65536) (keep ok (in_order r)) d
    (asc_keep ok (0 * 65536) ((0 + r.r0) * 65536) (in_order r) (asc_slabs r.r1 r.r2 0 r.r0 s.axis1.most s.axis2.most)) p q l h

-- ---- each of them is a cell of the grid, and one that passes the test

unfoldable All : (Cell → Type 0) → List Cell → Type 0
All P [] = Unit
All P (c ∷ cs) = P c × All P cs

all_append : (P : Cell → Type 0) (xs ys : List Cell) → All P xs → All P ys → All P (xs ++ ys)
unfolding All
all_append P [] ys a b = b
all_append P (c ∷ xs) ys a b = (a.0, all_append P xs ys a.1 b)

all_at : (P : Cell → Type 0) (cs : List Cell) (d : Cell) → All P cs → (p : ℕ) → p < length cs → P (get_or cs p d)
unfolding All
all_at P [] d a p h = absurd (none p h)
  where
    none : (p : ℕ) → p < 0 → ⊥
    none p h = omega arith
all_at P (c ∷ cs) d a zero h = a.0
all_at P (c ∷ cs) d a (suc p) h = all_at P cs d a.1 p (omega arith)

all_keep : (P : Cell → Type 0) (ok : Cell → Bool) (cs : List Cell) → All P cs → All (λ c. P c × (ok c ≡ true)) (keep ok cs)
unfolding All keep
all_keep P ok [] a = tt
all_keep P ok (c ∷ cs) a = by_bool (ok c) (λ e. rw e ((a.0, e), all_keep P ok cs a.1)) (λ e. rw e (all_keep P ok cs a.1))

module _ (r : Axes) where
  all_row : (i j k n : ℕ) → i < r.r0 → j < r.r1 → k + n ≤ r.r2 → All (InGrid r) (row i j k n)
  unfolding All row
  all_row i j k zero hi hj hk = tt
  all_row i j k (suc n) hi hj hk = (record { i_in = hi; j_in = hj; k_in = omega arith }, all_row i j (k + 1) n hi hj (omega arith))

  all_rows : (i j n : ℕ) → i < r.r0 → j + n ≤ r.r1 → All (InGrid r) (rows r.r2 i j n)
  unfolding All rows
  all_rows i j zero hi hj = tt
  all_rows i j (suc n) hi hj = all_append (InGrid r) (row i j 0 r.r2) (rows r.r2 i (j + 1) n) (all_row i j 0 r.r2 hi (omega arith) (omega arith)) (all_rows i (j + 1) n hi (omega arith))

  all_slabs : (i n : ℕ) → i + n ≤ r.r0 → All (InGrid r) (slabs r.r1 r.r2 i n)
  unfolding All slabs
  all_slabs i zero hi = tt
  all_slabs i (suc n) hi = all_append (InGrid r) (rows r.r2 i 0 r.r1) (slabs r.r1 r.r2 (i + 1) n) (all_rows i 0 r.r1 (omega arith) (omega arith)) (all_slabs (i + 1) n (omega arith))

  pub kept_in : (ok : Cell → Bool) (d : Cell) (p : ℕ) → p < length (keep ok (in_order r)) → InGrid r (get_or (keep ok (in_order r)) p d) × (ok (get_or (keep ok (in_order r)) p d) ≡ true)
  kept_in ok d p h = all_at (λ c. InGrid r c × (ok c ≡ true)) (keep ok (in_order r)) d (all_keep (InGrid r) ok (in_order r) (all_slabs 0 r.r0 (omega arith))) p h
