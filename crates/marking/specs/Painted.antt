-- What the loops of `marking` say to each other: cells of some set become 8, and the others stay. Definitions only.
use Rattle.std.specs.Prelude.{Bool, true, cond, ◌&&◌, ◌≡◌, List, ℕ, ◌+◌, ◌≤◌, length, Float}
use Rattle.grid.specs.declared.Axes.{Axes}
use Rattle.grid.specs.declared.Cell.{Cell}
use Rattle.grid.specs.declared.Placement.{Placement}
use Rattle.grid.specs.Grid.{InGrid, at}
use Rattle.touch.specs.declared.Bands.{Bands}
use Rattle.touch.specs.Bands.{kept_all, BandsFit}
use Rattle.grid.specs.declared.Stretch.{Stretch}
use Rattle.grid.specs.declared.Block.{Block}
use Rattle.grid.specs.Labels.{SURFACE}
use Rattle.marking_mesh.specs.Ranges.{Named, OnGrid, between, holds}
use Rattle.marking_cuts.specs.Cuts.{axes_leave, rest_of_row}
use Rattle.marking.specs.declared.Sweep.{Sweep}
use Rattle.marking.specs.Marked.{hits}

pub record Painted (r : Axes) (set : Cell → Bool) (before after : List ℕ) : Type 0 where
  pub size : length after ≡ length before
  pub labels : (c : Cell) → InGrid r c → at r after c ≡ cond (set c) SURFACE (at r before c)

-- the cells of a block that thirteen bands leave
abbrev pub left_in : Block → Bands → Cell → Bool
left_in b s c = holds b c && kept_all s c

-- one place along an axis; one row, and one layer, of a block
abbrev pub one : ℕ → Stretch
one n = record { from = n; to = n + 1 }

abbrev pub row_of : Stretch → ℕ → ℕ → Block
row_of e j k = record { i = e; j = one j; k = one k }

abbrev pub layer_of : Block → ℕ → Block
layer_of b k = record { i = b.i; j = b.j; k = one k }

-- the axes leave every cell of a block; in a row that has been cut so far, the rest of the directions decide
pub record AxesLeave (s : Bands) (b : Block) : Type 0 where
  pub leave : (c : Cell) → holds b c ≡ true → axes_leave s.axes c ≡ true

pub record RowRest (s : Bands) (e : Stretch) (j k : ℕ) : Type 0 where
  pub rest : (x : ℕ) → between e x ≡ true → kept_all s (record { i = x; j = j; k = k }) ≡ rest_of_row s j k x

-- a mesh without fault
pub record Ready (ps : List Float) (ts : List ℕ) (r : Axes) (placement : Placement) : Type 0 where
  pub named : Named ps ts
  pub on : OnGrid ps ts r placement
  pub few : length ts ≤ 196608

-- of a triangle's candidates, a block in the grid that the axes leave; there is one, and its bands leave of them the cells that it hits
pub record Sweeps (ps : List Float) (ts : List ℕ) (r : Axes) (placement : Placement) (t : ℕ) (s : Sweep) : Type 0 where
  pub fit : BandsFit s.bands
  pub axial : AxesLeave s.bands s.block
  pub i_in : s.block.i.to ≤ r.r0
  pub j_in : s.block.j.to ≤ r.r1
  pub k_in : s.block.k.to ≤ r.r2
  pub some : Cell
  pub some_in : InGrid r some
  pub some_held : holds s.block some ≡ true
  pub cells : (c : Cell) → left_in s.block s.bands c ≡ hits ps ts r placement t c
