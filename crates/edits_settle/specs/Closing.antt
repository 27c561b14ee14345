-- How a closing comes to its labels: the neighbours of the closed cell are settled one after the other. 01 does not speak of this, and what it comes to is in the specs of `edits`. Definitions only.
use Rattle.std.specs.Prelude.{Bool, true, false, cond, ◌⊎◌, ◌≡◌, List, ℕ, ◌+◌, ◌*◌, ◌<◌, ◌≤◌, eqb, ltb, length}
use Rattle.grid.specs.declared.Axes.{Axes}
use Rattle.grid.specs.declared.Cell.{Cell}
use Rattle.grid.specs.Counts.{count_of}
use Rattle.grid.specs.Grid.{cells, InGrid, at, Face, Border}
use Rattle.grid.specs.Paths.{Joined, Through}
use Rattle.grid.specs.Ways.{room, beside}
use Rattle.grid.specs.Labels.{OUTSIDE, INSIDE, SURFACE}
use Rattle.edits_reach.specs.declared.Trip.{Trip}
use Rattle.edits_reach.specs.Reach.{way_of, Reaches}
use Rattle.edits_settle.specs.declared.SealCounts.{SealCounts}

-- a "path of cells 6 to a border cell"; a border cell 6 is its own path
abbrev pub HasWay : Axes → List ℕ → Cell → Type 0
HasWay r l = Joined r (λ d. Border r d × (at r l d ≡ OUTSIDE)) (λ d. at r l d ≡ OUTSIDE)

-- labels 6, 7 and 8
abbrev pub Map : Axes → List ℕ → Type 0
Map r l = (c : Cell) → InGrid r c → (at r l c ≡ OUTSIDE) ⊎ ((at r l c ≡ INSIDE) ⊎ (at r l c ≡ SURFACE))

-- joined to a neighbour of c through cells 6
abbrev pub FromBeside : Axes → List ℕ → Cell → Cell → Type 0
FromBeside r l c x = (q : Cell) × InGrid r q × Face c q × (at r l q ≡ OUTSIDE) × Through r l OUTSIDE q x

-- what has become of cell x of the map m in which c is closed: nothing; or it has a way to the border and is marked, with a label under 6; or it is sealed off and 7
pub data Fate (r : Axes) (m : List ℕ) (c : Cell) (l : List ℕ) (x : Cell) : Type 0 where
  as_was : at r l x ≡ at r m x → Fate r m c l x
  marked : at r m x ≡ OUTSIDE → at r l x < OUTSIDE → HasWay r m x → Fate r m c l x
  cut : at r m x ≡ OUTSIDE → at r l x ≡ INSIDE → FromBeside r m c x → (HasWay r m x → ⊥) → Fate r m c l x

-- a cell that is marked v is joined through such marks to c's neighbour the way v
pub record Rooted (r : Axes) (c : Cell) (l : List ℕ) (v : ℕ) (x : Cell) : Type 0 where
  pub some : 0 < room r (way_of v) c
  pub root : at r l (beside (way_of v) c) ≡ v
  pub path : Through r l v (beside (way_of v) c) x

abbrev pub Roots : Axes → Cell → List ℕ → Type 0
Roots r c l = (x : Cell) → InGrid r x → at r l x < OUTSIDE → Rooted r c l (at r l x) x

-- where a closing stands, n cells having become 7
pub record Standing (r : Axes) (m : List ℕ) (c : Cell) (l : List ℕ) (n : ℕ) : Type 0 where
  pub size : length l ≡ cells r
  pub each : (x : Cell) → InGrid r x → Fate r m c l x
  pub closed : (x y : Cell) → InGrid r x → InGrid r y → Face x y → at r m x ≡ OUTSIDE → at r m y ≡ OUTSIDE → at r l x ≡ INSIDE → at r l y ≡ INSIDE
  pub rooted : Roots r c l
  pub counted : n + count_of INSIDE m ≡ count_of INSIDE l

-- q and what is joined to it through the label d, if those are all that have it, take a new one
pub record Relabels (r : Axes) (q : Cell) (d new : ℕ) (before after : List ℕ) : Type 0 where
  pub size : length after ≡ length before
  pub only : (x : Cell) → InGrid r x → (at r after x ≡ at r before x) ⊎ (at r after x ≡ new)
  pub each : ((x : Cell) → InGrid r x → at r before x ≡ d → Through r before d q x) → (x : Cell) → InGrid r x → at r after x ≡ cond (eqb (at r before x) d) new (at r before x)

-- a trip that met an exit; or one that met none, and what it set then took a new label
pub data Seals (r : Axes) (before : List ℕ) (q : Cell) (d : ℕ) (after : List ℕ) (s : SealCounts) : Type 0 where
  way_out : (w : Trip) → Reaches r OUTSIDE d true before q after w → w.met ≡ true → s.sealed ≡ 0 → s.marked ≡ w.count → Seals r before q d after s
  cut_off : (w : Trip) (l : List ℕ) → Reaches r OUTSIDE d true before q l w → w.met ≡ false → Relabels r q d INSIDE l after → s.sealed ≡ w.count → s.marked ≡ 0 → Seals r before q d after s

-- what settling the ways from a up to, not including, b does: so many cells more become 7, no label becomes 6, and if trips may be made no such neighbour stays 6, else none becomes 7
pub record Settles (a b : ℕ) (r : Axes) (c : Cell) (trips : Bool) (before after : List ℕ) (s : SealCounts) : Type 0 where
  pub size : length after ≡ length before
  pub fewer : (x : Cell) → InGrid r x → at r after x ≡ OUTSIDE → at r before x ≡ OUTSIDE
  pub sides : trips ≡ true → (d : ℕ) → a ≤ d → d < b → 0 < room r (way_of d) c → at r after (beside (way_of d) c) ≡ OUTSIDE → ⊥
  pub few : s.sealed + a * 16777216 ≤ b * 16777216
  pub some : s.marked + a * 16777216 ≤ b * 16777216
  pub still : trips ≡ false → s.sealed ≡ 0
  pub keeps : (m : List ℕ) (n : ℕ) → Map r m → Standing r m c before n → Standing r m c after (n + s.sealed)

-- the marks that pass a test become 6 again
pub record Restores (which : ℕ → Bool) (r : Axes) (c : Cell) (before after : List ℕ) : Type 0 where
  pub size : length after ≡ length before
  pub each : Roots r c before → (x : Cell) → InGrid r x → at r after x ≡ cond (which (at r before x)) OUTSIDE (at r before x)

-- one of them, and those below t
abbrev pub is_mark : ℕ → ℕ → Bool
is_mark d v = eqb v d

abbrev pub is_below : ℕ → ℕ → Bool
is_below t v = ltb v t
