-- A grid's cells: their numbers, their labels, faces and the border. Definitions only.
use Rattle.std.specs.Prelude.{Bool, ◌||◌, ◌⊎◌, ◌≡◌, List, [], ◌∷◌, ℕ, zero, suc, ◌+◌, ◌*◌, ◌-◌, ◌/◌, ◌%◌, ◌<◌, ◌≤◌, eqb, length, get_or}
use Rattle.grid.specs.declared.Axes.{Axes}
use Rattle.grid.specs.declared.Cell.{Cell}

-- 01, the table of refusals, 8 read the other way: an axis of 1 to 256 cells
pub record Axis (n : ℕ) : Type 0 where
  pub some : 0 < n
  pub most : n ≤ 256

pub record Sound (r : Axes) : Type 0 where
  pub axis0 : Axis r.r0
  pub axis1 : Axis r.r1
  pub axis2 : Axis r.r2

-- c is a cell of the grid
pub record InGrid (r : Axes) (c : Cell) : Type 0 where
  pub i_in : c.i < r.r0
  pub j_in : c.j < r.r1
  pub k_in : c.k < r.r2

-- the product of the axes, which is the number of cells
abbrev pub cells : Axes → ℕ
cells r = r.r0 * r.r1 * r.r2

-- 01, Marking: "Its number is i + j r0 + k r0 r1"
abbrev pub num : Axes → Cell → ℕ
num r c = c.i + c.j * r.r0 + c.k * (r.r0 * r.r1)

-- "and number and coordinates determine each other": the cell of a number
abbrev pub cell_numbered : Axes → ℕ → Cell
cell_numbered r n = record { i = n % r.r0; j = n / r.r0 % r.r1; k = n / r.r0 / r.r1 }

-- the label of a cell
abbrev pub at : Axes → List ℕ → Cell → ℕ
at r l c = get_or l (num r c) 0

-- a label for each cell of a sound grid: what the checks 8 and 9 leave
pub record Sheet (r : Axes) (l : List ℕ) : Type 0 where
  pub sound : Sound r
  pub size : length l ≡ cells r

-- the labels that a rule gives to each cell, in the order of cell numbers
unfoldable pub first_ones : ℕ → (ℕ → ℕ) → List ℕ
first_ones zero f = []
first_ones (suc n) f = f 0 ∷ first_ones n (λ k. f (suc k))

abbrev pub labels_by : Axes → (Cell → ℕ) → List ℕ
labels_by r f = first_ones (cells r) (λ n. f (cell_numbered r n))

-- d is c's neighbour one further along an axis
pub data Next (c d : Cell) : Type 0 where
  along_i : d.i ≡ c.i + 1 → d.j ≡ c.j → d.k ≡ c.k → Next c d
  along_j : d.i ≡ c.i → d.j ≡ c.j + 1 → d.k ≡ c.k → Next c d
  along_k : d.i ≡ c.i → d.j ≡ c.j → d.k ≡ c.k + 1 → Next c d

-- the two share a face
abbrev pub Face : Cell → Cell → Type 0
Face c d = Next c d ⊎ Next d c

-- a border cell: the first or the last along an axis. Nothing else says what the border is
pub data Border (r : Axes) (c : Cell) : Type 0 where
  first_i : c.i ≡ 0 → Border r c
  first_j : c.j ≡ 0 → Border r c
  first_k : c.k ≡ 0 → Border r c
  last_i : c.i + 1 ≡ r.r0 → Border r c
  last_j : c.j + 1 ≡ r.r1 → Border r c
  last_k : c.k + 1 ≡ r.r2 → Border r c

-- the same as a test, for a cell of the grid
abbrev pub on_border : Axes → Cell → Bool
on_border r c =
    ((eqb c.i 0 || eqb c.j 0) || eqb c.k 0)
    || eqb (r.r0 - c.i) 1
    || eqb (r.r1 - c.j) 1
    || eqb (r.r2 - c.k) 1
