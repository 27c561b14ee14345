-- The records of a list as a table in list order, over the first n records of a slice. Definitions only.
use Rattle.std.specs.Prelude.{List, ℕ, ◌*◌, ◌≤◌, ◌<◌, length}
use Rattle.touch.specs.Bands.{CellFits}
use Rattle.grid.specs.declared.Stretch.{Stretch}
use Rattle.order.specs.Order.{key}
use Rattle.list_record.specs.Record.{width, record_at}

-- where record p stands in list order
abbrev pub key_at : List ℕ → ℕ → ℕ
key_at o p = key (record_at o p).cell

-- n records, in list order
pub record Table (o : List ℕ) (n : ℕ) : Type 0 where
  pub room : n * width ≤ length o
  pub few : n ≤ 16777216
  pub near : (p : ℕ) → p < n → CellFits (record_at o p).cell
  pub up : (p q : ℕ) → p < q → q < n → key_at o p < key_at o q

-- the records before x have keys under a bound
pub record Behind (o : List ℕ) (n bound x : ℕ) : Type 0 where
  pub most : x ≤ n
  pub under : (p : ℕ) → p < x → key_at o p < bound

-- and those from y on have not
pub record Ahead (o : List ℕ) (n bound y : ℕ) : Type 0 where
  pub most : y ≤ n
  pub over : (p : ℕ) → y ≤ p → p < n → bound ≤ key_at o p

-- between two records, from `from` on, the first with a key of the bound or more lies
pub record Window (o : List ℕ) (n bound from : ℕ) (w : Stretch) : Type 0 where
  pub low : Behind o n bound w.from
  pub high : Ahead o n bound w.to
  pub order : w.from ≤ w.to
  pub after : from ≤ w.from
