-- The slabs of a block, and what all triangles give to a record. Definitions only.
use Rattle.std.specs.Prelude.{true, ◌≡◌, List, ℕ, Float}
use Rattle.grid.specs.declared.Axes.{Axes}
use Rattle.grid.specs.declared.Placement.{Placement}
use Rattle.grid.specs.declared.Block.{Block}
use Rattle.grid.specs.declared.Stretch.{Stretch}
use Rattle.marking_mesh.specs.Ranges.{between}
use Rattle.touch.specs.declared.Bands.{Bands}
use Rattle.touch.specs.Bands.{kept_all}
use Rattle.marking_cuts.specs.Cuts.{rest_along_k}
use Rattle.marking.specs.Marked.{hits}
use Rattle.marking.specs.Painted.{one}
use Rattle.order.specs.Order.{chosen}
use Rattle.list_record.specs.Record.{record_at}
use Rattle.list_rows.specs.Rows.{meets}

-- row (i, j) along k
abbrev pub line_at : ℕ → ℕ → Stretch → Block
line_at i j k = record { i = one i; j = one j; k = k }

-- in a row that has been cut so far, the rest of the directions decide
pub record LineRest (s : Bands) (e : Stretch) (i j : ℕ) : Type 0 where
  pub rest : (x : ℕ) → between e x ≡ true → kept_all s (record { i = i; j = j; k = x }) ≡ rest_along_k s i j x

-- slab i of a block
abbrev pub slab_at : Block → ℕ → Block
slab_at b i = record { i = one i; j = b.j; k = b.k }

-- the first t triangles, each if it has the record's cell as a candidate and touches it
abbrev pub all_of : List Float → List ℕ → Axes → Placement → List ℕ → ℕ → ℕ → List ℕ
all_of ps ts r placement o t p = chosen (λ u. meets (hits ps ts r placement u) (record_at o p)) t
