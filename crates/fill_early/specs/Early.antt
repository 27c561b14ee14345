-- What the crate `fill_early` does to a block of slabs before its cells are visited. Definitions only.
use Rattle.std.specs.Prelude.{Bool, false, not, cond, ◌&&◌, ◌||◌, ◌≡◌, List, ℕ, zero, suc, ◌+◌, ◌-◌, ◌/◌, ◌%◌, ◌≤◌, ◌<◌, min, eqb, ltb, get_or, set}
use Rattle.grid.specs.declared.Axes.{Axes}
use Rattle.grid.specs.declared.Cell.{Cell}
use Rattle.grid.specs.Grid.{InGrid}
use Rattle.fill_walks.specs.declared.Phase.{Phase}
use Rattle.fill_walks.specs.Quiet.{Idle, SetEarly, SameEnd}

-- a stride where there is room for a step, and none at the edge
abbrev pub step_if : ℕ → ℕ → ℕ
step_if room stride = cond (ltb 0 room) stride 0

-- cells of the slabs from `first` up to, not including, `end` were set before their turn, w of them walked before and v after: the slabs end as they would have
pub record EarlySame (p : Phase) (r : Axes) (first end : ℕ) (l : List ℕ) (w : ℕ) (m : List ℕ) (v : ℕ) : Type 0 where
  pub early : SetEarly p l m
  pub same : SameEnd p r (end - first) first (record { labels = l; walked = w }) (record { labels = m; walked = v })

-- if none of such cells may act, a visit of each changes nothing
abbrev pub IdleUnless : Phase → Axes → List ℕ → Bool → (Cell → Type 0) → Type 0
IdleUnless p r l acting S = acting ≡ false → (c : Cell) → InGrid r c → S c → Idle p r l c

-- cells of a part of slabs `first` up to, not including, `end`: of one row, and of the rows `from` up to, not including, `to`, with one j
pub record InRow (first end j k : ℕ) (c : Cell) : Type 0 where
  pub i_least : first ≤ c.i
  pub i_most : c.i < end
  pub j_same : c.j ≡ j
  pub k_same : c.k ≡ k

pub record InRows (first end j from to : ℕ) (c : Cell) : Type 0 where
  pub i_least : first ≤ c.i
  pub i_most : c.i < end
  pub j_same : c.j ≡ j
  pub k_least : from ≤ c.k
  pub k_most : c.k < to

-- these slabs are all of a block of the table and of no other, and there is one
pub record Blocked (r : Axes) (first end : ℕ) : Type 0 where
  pub some : first < end
  pub most : end ≤ r.r0
  pub whole : (i : ℕ) → i < r.r0 → (i + 15) / 16 ≡ (first + 15) / 16 → (first ≤ i) × (i < end)
  pub one : (i : ℕ) → first ≤ i → i < end → (i + 15) / 16 ≡ (first + 15) / 16

-- and these rows all of a group of it
pub record Grouped (r : Axes) (first end from to : ℕ) : Type 0 where
  pub block : Blocked r first end
  pub starts : from % 16 ≡ 0
  pub some : from < r.r2
  pub ends : to ≡ min (from + 16) r.r2

-- ---- sixteen cells from number n on

pub record Other (a b v : ℕ) : Type 0 where
  pub first : v ≡ a → ⊥
  pub second : v ≡ b → ⊥

-- one that is not told was not before, and has neither label above nor below
pub record Unmet (l : List ℕ) (n up down a b : ℕ) (told : List ℕ) (d : ℕ) : Type 0 where
  pub before : get_or told d 0 ≡ 0
  pub above : Other a b (get_or l (n + up + d) 0)
  pub under : Other a b (get_or l (n - down + d) 0)

abbrev pub TellsNear : List ℕ → ℕ → ℕ → ℕ → ℕ → ℕ → List ℕ → List ℕ → Type 0
TellsNear l n up down a b told t = (d : ℕ) → d < 16 → get_or t d 0 ≡ 0 → Unmet l n up down a b told d

-- ---- the sixteen set one after the other

-- labels, how many cells were set, and whether one may act
pub record Sixteen : Type 0 where
  pub labels : List ℕ
  pub set : ℕ
  pub acting : Bool

-- whether the cell d on is to walk and is not told, and whether it is told and to walk or walks
abbrev pub sets_early : ℕ → List ℕ → ℕ → ℕ → List ℕ → Bool
sets_early todo told n d l = eqb (get_or l (n + d) 0) todo && eqb (get_or told d 0) 0

abbrev pub stays : ℕ → ℕ → List ℕ → ℕ → ℕ → List ℕ → Bool
stays todo other told n d l = (eqb (get_or l (n + d) 0) todo || eqb (get_or l (n + d) 0) other) && not (eqb (get_or told d 0) 0)

unfoldable pub set_from : ℕ → ℕ → ℕ → List ℕ → ℕ → ℕ → ℕ → Sixteen → Sixteen
set_from todo done other told n zero d s = s
set_from todo done other told n (suc m) d s =
    set_from todo done other told n m (d + 1)
    (record {
      labels = set s.labels (n + d) (cond (sets_early todo told n d s.labels) done (get_or s.labels (n + d) 0));
      set = s.set + cond (sets_early todo told n d s.labels) 1 0;
      acting = s.acting || stays todo other told n d s.labels;
    })
