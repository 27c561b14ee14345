-- 01, Fill: walks, visits and scans of a phase, as 01 tells them. Definitions only.
use Rattle.std.specs.Prelude.{Bool, false, cond, Option, Some, None, List, [], ◌∷◌, ℕ, zero, suc, ◌+◌, min, ◌^◌, ◌≤◌, eqb, set}
use Rattle.grid.specs.declared.Axes.{Axes}
use Rattle.grid.specs.declared.Cell.{Cell}
use Rattle.grid.specs.Grid.{num, at}
use Rattle.grid.specs.Ways.{Way, ways, room, beside}
use Rattle.grid.specs.Labels.{SURFACE}
use Rattle.fill_walks.specs.declared.Phase.{Phase}

-- ---- a walk

-- "If that cell is 8 it takes the phase's surface label"
abbrev pub met : Phase → Axes → Cell → List ℕ → List ℕ
met p r d l = cond (eqb (at r l d) SURFACE) (set l (num r d) p.mark) l

-- one direction, for n cells at most: "each 0 it passes takes the phase's to-walk label"; it stops "at the first cell not 0". The label passed is the phase's; in a fill it is 0
unfoldable pub walked_for : Phase → Axes → Way → ℕ → Cell → List ℕ → List ℕ
walked_for p r w zero c l = l
walked_for p r w (suc n) c l =
    cond (eqb (at r l (beside w c)) p.pass)
    (walked_for p r w n (beside w c) (set l (num r (beside w c)) p.todo))
    (met p r (beside w c) l)

-- "each direction stops after 64 cells, at the edge": the stopping cell is one of the 64
abbrev pub walked_to : Phase → Axes → Way → Cell → List ℕ → List ℕ
walked_to p r w c l = walked_for p r w (min (room r w c) 64) c l

-- one direction after another
unfoldable pub walked_over : Phase → Axes → List Way → Cell → List ℕ → List ℕ
walked_over p r [] c l = l
walked_over p r (w ∷ ws) c l = walked_over p r ws c (walked_to p r w c l)

-- "A walk goes +k, -k, +j, -j, +i, -i"
abbrev pub walked_from : Phase → Axes → Cell → List ℕ → List ℕ
walked_from p r c l = walked_over p r ways c l

-- ---- a scan

-- whether a label is the phase's walking surface label
abbrev pub is_walker : Option ℕ → ℕ → Bool
is_walker None v = false
is_walker (Some s) v = eqb v s

-- labels, and how many cells were walked
pub record State : Type 0 where
  pub labels : List ℕ
  pub walked : ℕ

-- "A cell with the phase's to-walk label takes its set label, is counted as walked, and walks; a cell with the phase's walking surface label walks uncounted"
unfoldable pub visited : Phase → Axes → Cell → State → State
visited p r c s =
    cond (eqb (at r s.labels c) p.todo)
    (record { labels = walked_from p r c (set s.labels (num r c) p.done); walked = s.walked + 1 })
    (cond (is_walker p.walkers (at r s.labels c))
    (record { labels = walked_from p r c s.labels; walked = s.walked })
    s)

-- f at i, i + 1, ..., n of them
unfoldable pub in_turn : (ℕ → State → State) → ℕ → ℕ → State → State
in_turn f zero i s = s
in_turn f (suc n) i s = in_turn f n (i + 1) (f i s)

-- "A scan visits i outermost, k innermost": a row has one i and one j, a slab one i
abbrev pub rowed : Phase → Axes → ℕ → ℕ → State → State
rowed p r i j = in_turn (λ k. visited p r (record { i = i; j = j; k = k })) r.r2 0

abbrev pub slabbed : Phase → Axes → ℕ → State → State
slabbed p r i = in_turn (λ j. rowed p r i j) r.r1 0

abbrev pub scanned : Phase → Axes → List ℕ → State
scanned p r l = in_turn (λ i. slabbed p r i) r.r0 0 (record { labels = l; walked = 0 })

-- ---- the count of walked cells fits: where `more` cells may be walked, it stands so far below a bound that a scan does not reach

abbrev pub most_counted : ℕ
most_counted = 2 ^ 32

abbrev pub Countable : ℕ → ℕ → Type 0
Countable walked more = walked + more ≤ most_counted
