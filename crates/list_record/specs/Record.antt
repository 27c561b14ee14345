-- A record of the cell list, and a cell's part of the list of triangle numbers. Definitions only.
use Rattle.std.specs.Prelude.{Bool, cond, ◌||◌, ◌⊎◌, ◌≡◌, List, [], ◌∷◌, ℕ, ◌+◌, ◌*◌, ◌-◌, ◌≤◌, ◌<◌, ltb, length, get_or, take, drop, Ok}
use Rattle.grid.specs.Answers.{fault_if, Checked}
use Rattle.list_record.specs.declared.CellRecord.{CellRecord}
use Rattle.grid.specs.declared.Reason.TheVariants.{BadRange}

-- ---- the layout: nothing else says it

-- how many numbers a record has, and which: its cell, 1 for a surface cell and 0 for another, its range
abbrev pub width : ℕ
width = 6

unfoldable pub numbers_of : CellRecord → List ℕ
numbers_of e = e.cell.i ∷ e.cell.j ∷ e.cell.k ∷ e.surface ∷ e.start ∷ e.end ∷ []

-- record p of a slice
unfoldable pub record_at : List ℕ → ℕ → CellRecord
record_at o p =
    record {
      cell = record { i = get_or o (p * width) 0; j = get_or o (p * width + 1) 0; k = get_or o (p * width + 2) 0 };
      surface = get_or o (p * width + 3) 0;
      start = get_or o (p * width + 4) 0;
      end = get_or o (p * width + 5) 0;
    }

-- a record with another range
abbrev pub ranged : ℕ → ℕ → CellRecord → CellRecord
ranged start end e = record { cell = e.cell; surface = e.surface; start = start; end = end }

-- record p becomes e, and everything else stays
pub record PutRecord (p : ℕ) (e : CellRecord) (before after : List ℕ) : Type 0 where
  pub size : length after ≡ length before
  pub here : record_at after p ≡ e
  pub other : (q : ℕ) → (q ≡ p → ⊥) → record_at after q ≡ record_at before q
  pub outside : (n : ℕ) → (n < p * width) ⊎ (p * width + width ≤ n) → get_or after n 0 ≡ get_or before n 0

-- ---- a cell's triangles

-- "15: .. a range falls back or passes the list"; "(0 without parts or for a single range)"
abbrev pub bad_range : List ℕ → ℕ → ℕ → Bool
bad_range list start end = ltb end start || ltb (length list) end

abbrev pub range_fault : List ℕ → ℕ → ℕ → Checked
range_fault list start end = fault_if (bad_range list start end) BadRange 0 (Ok tt)

-- "A cell's triangles are handed back as the part of the caller's list; for a bad range that part is empty, and a check of the same range answers 15."
abbrev pub list_slice : List ℕ → ℕ → ℕ → List ℕ
list_slice list start end = cond (bad_range list start end) [] (take (end - start) (drop start list))
