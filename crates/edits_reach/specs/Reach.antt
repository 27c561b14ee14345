-- A trip from one cell through cells of one label: what it finds on its way and what it leaves. Definitions only.
use Rattle.std.specs.Prelude.{Bool, true, false, ◌⊎◌, ◌≡◌, List, ℕ, zero, suc, ◌+◌, ◌≤◌, ◌<◌, length}
use Rattle.grid.specs.declared.Axes.{Axes}
use Rattle.grid.specs.declared.Cell.{Cell}
use Rattle.grid.specs.Counts.{count_of}
use Rattle.grid.specs.Grid.{num, InGrid, at, Sheet, Face, Border}
use Rattle.grid.specs.Paths.{Through}
use Rattle.grid.specs.Ways.{Way, up_k, down_k, up_j, down_j, up_i, down_i, room, beside}
use Rattle.grid.specs.Labels.{OUTSIDE}
use Rattle.edits_reach.specs.declared.Seen.{Seen}
use Rattle.edits_reach.specs.declared.Trip.{Trip}

-- the ways in the order in which a trip tries them
abbrev pub way_of : ℕ → Way
way_of zero = up_i
way_of (suc zero) = down_i
way_of (suc (suc zero)) = up_j
way_of (suc (suc (suc zero))) = down_j
way_of (suc (suc (suc (suc zero)))) = up_k
way_of (suc (suc (suc (suc (suc d))))) = down_k

-- at the edge of the grid, where there is no neighbour, a look finds this, which is no label
abbrev pub NO_LABEL : ℕ
NO_LABEL = 9

-- what a look at c's neighbour that way finds: its label and number, or no label at the edge
pub record Sees (r : Axes) (l : List ℕ) (c : Cell) (d : ℕ) (a : Seen) : Type 0 where
  pub label : 0 < room r (way_of d) c → a.label ≡ at r l (beside (way_of d) c)
  pub number : 0 < room r (way_of d) c → a.n ≡ num r (beside (way_of d) c)
  pub none : room r (way_of d) c ≡ 0 → a.label ≡ NO_LABEL
  pub edge : a.edge ≡ true → room r (way_of d) c ≡ 0

-- a label under 6 that is not the trip's own
abbrev pub Marked : ℕ → ℕ → Type 0
Marked done v = (v < OUTSIDE) × (v ≡ done → ⊥)

-- an exit: a border cell, or one with a neighbour that is so marked
abbrev pub Exit : Axes → ℕ → List ℕ → Cell → Type 0
Exit r done l c = Border r c ⊎ ((d : Cell) × InGrid r d × Face c d × Marked done (at r l d))

-- cells 6 lead from c to an exit, where every label under 6 is a mark
abbrev pub Leads : Axes → List ℕ → Cell → Type 0
Leads r l c = (d : Cell) × Through r l OUTSIDE c d × Exit r OUTSIDE l d

-- what a trip asks of the labels: they fit the grid; what it passes and what it sets are two labels under 9; s does not have the one it sets; and where it stops at exits, neither what it passes nor s can be taken for a mark
pub record MayReach (r : Axes) (pass done : ℕ) (stop : Bool) (l : List ℕ) (s : Cell) : Type 0 where
  pub sheet : Sheet r l
  pub inside : InGrid r s
  pub pass_low : pass < NO_LABEL
  pub done_low : done < NO_LABEL
  pub apart : done ≡ pass → ⊥
  pub fresh : at r l s ≡ done → ⊥
  pub firm : stop ≡ true → (OUTSIDE ≤ pass) × (OUTSIDE ≤ at r l s)

-- What a trip leaves: the cells that it set are reached from s, and still are through what it set; all other labels are as they were, and s is set. If no exit was met, every cell that is reached is set, and none of them is an exit; if one was met, one of them is
pub record Reaches (r : Axes) (pass done : ℕ) (stop : Bool) (before : List ℕ) (s : Cell) (after : List ℕ) (w : Trip) : Type 0 where
  pub size : length after ≡ length before
  pub each : (c : Cell) → InGrid r c
      → (Through r before pass s c × Through r after done s c × (at r after c ≡ done)) ⊎ ((c ≡ s → ⊥) × (at r after c ≡ at r before c))
  pub whole : w.met ≡ false → (c : Cell) → Through r before pass s c → at r after c ≡ done
  pub clear : w.met ≡ false → stop ≡ true → (c : Cell) → Through r before pass s c → Exit r done before c → ⊥
  pub met_at : w.met ≡ true → (stop ≡ true) × (c : Cell) × Through r before pass s c × Exit r done before c
  pub counted : w.count + count_of done before ≡ count_of done after
