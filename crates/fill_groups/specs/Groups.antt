-- The table of groups of cells that may act, and what it must cover. Definitions only.
use Rattle.std.specs.Prelude.{true, ◌⊎◌, ◌≡◌, List, ℕ, ◌+◌, ◌*◌, ◌/◌, ◌<◌, length, get_or}
use Rattle.grid.specs.declared.Axes.{Axes}
use Rattle.grid.specs.declared.Cell.{Cell}
use Rattle.grid.specs.Grid.{InGrid, at}
use Rattle.fill_groups.specs.declared.Axis.{Axis}
use Rattle.fill_groups.specs.declared.Axis.TheVariants.{I, J, K}
use Rattle.fill_walks.specs.declared.Phase.{Phase}
use Rattle.fill_walks.specs.Scan.{is_walker}
use Rattle.fill_walks.specs.Quiet.{Quiet}

-- 17 blocks along i, 16 groups along k and 256 places along j
abbrev pub table_length : ℕ
table_length = 69632

abbrev pub place_at : ℕ → ℕ → ℕ → ℕ
place_at i j k = ((i + 15) / 16 * 16 + k / 16) * 256 + j

abbrev pub place_of : Cell → ℕ
place_of c = place_at c.i c.j c.k

-- a cell that has a place in the table
pub record InTable (c : Cell) : Type 0 where
  pub i_in : c.i < 256
  pub j_in : c.j < 256
  pub k_in : c.k < 256

-- ---- the line along an axis through a cell

-- its cell at x
abbrev pub moved : Axis → Cell → ℕ → Cell
moved I c x = record { i = x; j = c.j; k = c.k }
moved J c x = record { i = c.i; j = x; k = c.k }
moved K c x = record { i = c.i; j = c.j; k = x }

-- where on it the cell stands, how many cells it has, and how far apart their numbers are
abbrev pub coordinate : Axis → Cell → ℕ
coordinate I c = c.i
coordinate J c = c.j
coordinate K c = c.k

abbrev pub extent : Axis → Axes → ℕ
extent I r = r.r0
extent J r = r.r1
extent K r = r.r2

abbrev pub stride : Axis → Axes → ℕ
stride I r = 1
stride J r = r.r0
stride K r = r.r0 * r.r1

-- ---- what a table covers

-- the byte at place n is raised
pub record Up (t : List ℕ) (n : ℕ) : Type 0 where
  pub raised : 0 < get_or t n 0

-- what was raised is
pub record Raises (t u : List ℕ) : Type 0 where
  pub size : length u ≡ length t
  pub kept : (n : ℕ) → Up t n → Up u n

-- the group of each cell that is to walk is raised, and so is that of each walker, unless no walk from it changes anything
pub record Covers (p : Phase) (r : Axes) (l t : List ℕ) : Type 0 where
  pub size : length t ≡ table_length
  pub todo : (c : Cell) → InGrid r c → at r l c ≡ p.todo → Up t (place_of c)
  pub walkers : (c : Cell) → InGrid r c → is_walker p.walkers (at r l c) ≡ true → Up t (place_of c) ⊎ Quiet p r l c
