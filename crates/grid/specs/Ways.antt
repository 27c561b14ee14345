-- The six ways from a cell to a neighbour. Definitions only.
use Rattle.std.specs.Prelude.{List, [], ◌∷◌, ℕ, ◌+◌, ◌-◌}
use Rattle.grid.specs.declared.Axes.{Axes}
use Rattle.grid.specs.declared.Cell.{Cell}

pub data Way : Type 0 where
  up_k : Way
  down_k : Way
  up_j : Way
  down_j : Way
  up_i : Way
  down_i : Way

-- 01, Fill: "+k, -k, +j, -j, +i, -i"
abbrev pub ways : List Way
ways = up_k ∷ down_k ∷ up_j ∷ down_j ∷ up_i ∷ down_i ∷ []

-- how many cells there are that way, up to the edge
abbrev pub room : Axes → Way → Cell → ℕ
room r up_k c = r.r2 - (c.k + 1)
room r down_k c = c.k
room r up_j c = r.r1 - (c.j + 1)
room r down_j c = c.j
room r up_i c = r.r0 - (c.i + 1)
room r down_i c = c.i

-- the neighbour that way, where there is room for one
abbrev pub beside : Way → Cell → Cell
beside up_k c = record { i = c.i; j = c.j; k = c.k + 1 }
beside down_k c = record { i = c.i; j = c.j; k = c.k - 1 }
beside up_j c = record { i = c.i; j = c.j + 1; k = c.k }
beside down_j c = record { i = c.i; j = c.j - 1; k = c.k }
beside up_i c = record { i = c.i + 1; j = c.j; k = c.k }
beside down_i c = record { i = c.i - 1; j = c.j; k = c.k }

-- the way back from there
abbrev pub counter : Way → Way
counter up_k = down_k
counter down_k = up_k
counter up_j = down_j
counter down_j = up_j
counter up_i = down_i
counter down_i = up_i
