-- From counts to places: the ranges of the first n records of a slice. Definitions only.
use Rattle.std.specs.Prelude.{◌≡◌, List, ℕ, ◌*◌, ◌≤◌, ◌<◌, length, get_or}
use Rattle.order.proofs.Sums.{sum}
use Rattle.list_record.specs.Record.{width, record_at, ranged}
use Rattle.list_rows.specs.Rows.{end_at}

-- the ends of the records before p, added up
abbrev pub ends_before : List ℕ → ℕ → ℕ
ends_before o p = sum (end_at o) p

pub record RangesLaid (n : ℕ) (before after : List ℕ) : Type 0 where
  pub size : length after ≡ length before
  pub rows : (p : ℕ) → p < n → record_at after p ≡ ranged (ends_before before p) (ends_before before p) (record_at before p)
  pub past : (x : ℕ) → n * width ≤ x → get_or after x 0 ≡ get_or before x 0
