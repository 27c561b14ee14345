-- 01, List, classes, planes, boxes: "i outermost, k innermost". Definitions only.
use Rattle.std.specs.Prelude.{Bool, cond, List, [], ◌∷◌, ◌++◌, ℕ, zero, suc, ◌+◌, ◌*◌, ◌≤◌, ◌<◌, ltb}
use Rattle.grid.specs.declared.Axes.{Axes}
use Rattle.grid.specs.declared.Cell.{Cell}
use Rattle.grid.specs.declared.LabelSet.{LabelSet}
use Rattle.grid.specs.Checks.{label_ranges}
use Rattle.grid.specs.Labels.{UNDEFINED, SURFACE}

-- n cells along k, from (i, j, k) on
unfoldable pub row : ℕ → ℕ → ℕ → ℕ → List Cell
row i j k zero = []
row i j k (suc n) = record { i = i; j = j; k = k } ∷ row i j (k + 1) n

-- n rows of z cells each, from row j of slab i on
unfoldable pub rows : ℕ → ℕ → ℕ → ℕ → List Cell
rows z i j zero = []
rows z i j (suc n) = row i j 0 z ++ rows z i (j + 1) n

-- n slabs of y rows each, from slab i on
unfoldable pub slabs : ℕ → ℕ → ℕ → ℕ → List Cell
slabs y z i zero = []
slabs y z i (suc n) = rows z i 0 y ++ slabs y z (i + 1) n

-- list order: all cells of a grid, "i outermost, k innermost"
abbrev pub in_order : Axes → List Cell
in_order r = slabs r.r1 r.r2 0 r.r0

-- the cells of a list that pass a test, in its order
unfoldable pub keep : (Cell → Bool) → List Cell → List Cell
keep ok [] = []
keep ok (c ∷ cs) = cond (ok c) (c ∷ keep ok cs) (keep ok cs)

-- the numbers below n that pass a test, ascending
unfoldable pub chosen : (ℕ → Bool) → ℕ → List ℕ
chosen ok zero = []
chosen ok (suc n) = chosen ok n ++ cond (ok n) (n ∷ []) []

-- one list after the other, for each element of a list
unfoldable pub join_all : {A B : Type 0} → (A → List B) → List A → List B
join_all f [] = []
join_all f (x ∷ xs) = f x ++ join_all f xs

-- 01, List: "a label over 8 is 11": the labels that are no fault there
abbrev pub known_labels : LabelSet
known_labels = label_ranges UNDEFINED SURFACE UNDEFINED SURFACE

-- ---- a walk in list order

-- where it stands: at a cell, or past the last, where i is r0
pub record AtOrPast (r : Axes) (c : Cell) : Type 0 where
  pub i_high : c.i ≤ r.r0
  pub j_high : c.j < r.r1
  pub k_high : c.k < r.r2

-- list order as a number, for coordinates below 256
abbrev pub key : Cell → ℕ
key c = c.i * 65536 + c.j * 256 + c.k

-- the next cell
abbrev pub next_cell : Axes → Cell → Cell
next_cell r c =
    cond (ltb (c.k + 1) r.r2) (record { i = c.i; j = c.j; k = c.k + 1 })
    (cond (ltb (c.j + 1) r.r1) (record { i = c.i; j = c.j + 1; k = 0 })
    (record { i = c.i + 1; j = 0; k = 0 }))
