-- What a round of `list_pairs` does to the records that a triangle goes to, over the first n records of a slice. Definitions only.
use Rattle.std.specs.Prelude.{Bool, true, false, cond, ◌&&◌, ◌⊎◌, ◌≡◌, List, [], ◌∷◌, ℕ, ◌+◌, ◌*◌, ◌≤◌, ◌<◌, eqb, leb, ltb, length, get_or}
use Rattle.grid.specs.declared.Cell.{Cell}
use Rattle.order.specs.Order.{key}
use Rattle.list_record.specs.declared.CellRecord.{CellRecord}
use Rattle.list_record.specs.Record.{width, record_at, ranged}

-- where the range of record p ends
abbrev pub end_at : List ℕ → ℕ → ℕ
end_at o p = (record_at o p).end

-- ---- which records a triangle goes to

-- a record of a surface cell of a set
abbrev pub meets : (Cell → Bool) → CellRecord → Bool
meets set e = eqb e.surface 1 && set e.cell

-- the cells with keys from one up to, not including, another
abbrev pub keyed : ℕ → ℕ → Cell → Bool
keyed want past c = leb want (key c) && ltb (key c) past

-- ---- each record gets some triangle numbers

-- triangle t, if its cell is in a set
abbrev pub gets : ℕ → (Cell → Bool) → List ℕ → ℕ → List ℕ
gets t set o p = cond (meets set (record_at o p)) (t ∷ []) []

-- then its range ends so much further on
pub record Bumped (n : ℕ) (g : ℕ → List ℕ) (before after : List ℕ) : Type 0 where
  pub size : length after ≡ length before
  pub rows : (p : ℕ) → p < n → record_at after p ≡ ranged (record_at before p).start (end_at before p + length (g p)) (record_at before p)
  pub past : (x : ℕ) → n * width ≤ x → get_or after x 0 ≡ get_or before x 0

-- and, where they are placed, they stand in the list from where its range ended; the rest of the list is as it was
pub record PlacedIn (n : ℕ) (g : ℕ → List ℕ) (o before after : List ℕ) : Type 0 where
  pub size : length after ≡ length before
  pub there : (p : ℕ) → p < n → (x : ℕ) → x < length (g p) → get_or after (end_at o p + x) 0 ≡ get_or (g p) x 0
  pub others : (y : ℕ) → ((p : ℕ) → p < n → (y < end_at o p) ⊎ (end_at o p + length (g p) ≤ y)) → get_or after y 0 ≡ get_or before y 0

-- a round that places, or does not
abbrev pub Given : Bool → ℕ → (ℕ → List ℕ) → List ℕ → List ℕ → List ℕ → Type 0
Given true n g o before after = PlacedIn n g o before after
Given false n g o before after = after ≡ before

pub record Entered (placing : Bool) (n : ℕ) (g : ℕ → List ℕ) (o q o' q' : List ℕ) : Type 0 where
  pub bumped : Bumped n g o o'
  pub given : Given placing n g o q q'

-- ---- the room that it needs

-- places that do not meet, in a list of length len
pub record Places (n : ℕ) (g : ℕ → List ℕ) (o : List ℕ) (len : ℕ) : Type 0 where
  pub inside : (p : ℕ) → p < n → end_at o p + length (g p) ≤ len
  pub apart : (p q : ℕ) → p < q → q < n → end_at o p + length (g p) ≤ end_at o q

abbrev pub Free : Bool → ℕ → (ℕ → List ℕ) → List ℕ → ℕ → Type 0
Free true n g o len = Places n g o len
Free false n g o len = Unit

pub record Room (placing : Bool) (n : ℕ) (g : ℕ → List ℕ) (o : List ℕ) (len : ℕ) : Type 0 where
  pub fits : (p : ℕ) → p < n → end_at o p + length (g p) ≤ 4294967295
  pub free : Free placing n g o len
