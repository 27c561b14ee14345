-- What a scan may pass over, and what may be done before its turn in it: the grounds on which a scan that visits few cells does what 01's scan does. proofs/Quiets.antt has the laws. Definitions only.
use Rattle.std.specs.Prelude.{true, false, ◌⊎◌, ◌≡◌, List, ℕ, ◌+◌, ◌*◌, ◌≤◌, ◌<◌, length, get_or}
use Rattle.grid.specs.declared.Axes.{Axes}
use Rattle.grid.specs.declared.Cell.{Cell}
use Rattle.grid.specs.Grid.{at}
use Rattle.grid.specs.Ways.{Way, room, beside}
use Rattle.grid.specs.Labels.{SURFACE}
use Rattle.fill_walks.specs.declared.Phase.{Phase}
use Rattle.fill_walks.specs.Scan.{State, is_walker, in_turn, slabbed}
use Rattle.fill_walks.specs.Run.{Proper}

-- a phase of which each label says one thing
pub record Clear (p : Phase) : Type 0 where
  pub proper : Proper p
  pub apart : p.pass ≡ p.todo → ⊥
  pub set_unmarked : p.done ≡ SURFACE → ⊥
  pub set_stays : is_walker p.walkers p.done ≡ false
  pub mark_stays : is_walker p.walkers p.mark ≡ false

-- a walk that meets the label v stops there and changes nothing
pub record Stops (p : Phase) (v : ℕ) : Type 0 where
  pub unpassed : v ≡ p.pass → ⊥
  pub unmarked : v ≡ SURFACE → p.mark ≡ SURFACE

-- no walk from c changes anything
abbrev pub Quiet : Phase → Axes → List ℕ → Cell → Type 0
Quiet p r l c = (w : Way) → 0 < room r w c → Stops p (at r l (beside w c))

-- a visit of c changes nothing
pub record Idle (p : Phase) (r : Axes) (l : List ℕ) (c : Cell) : Type 0 where
  pub walked : at r l c ≡ p.todo → ⊥
  pub quiet : is_walker p.walkers (at r l c) ≡ true → Quiet p r l c

-- some cells that were to walk are set
pub record SetEarly (p : Phase) (l m : List ℕ) : Type 0 where
  pub size : length m ≡ length l
  pub labels : (d : ℕ) → (get_or m d 0 ≡ get_or l d 0) ⊎ ((get_or l d 0 ≡ p.todo) × (get_or m d 0 ≡ p.done))

-- from both states n slabs of a scan, from slab a on, end in the same one
abbrev pub SameEnd : Phase → Axes → ℕ → ℕ → State → State → Type 0
SameEnd p r n a s t = in_turn (λ i. slabbed p r i) n a t ≡ in_turn (λ i. slabbed p r i) n a s

-- ---- what walks change

-- the number d is one of n that a stride of `add` less `sub` meets from `from`, or that itself
pub data On (from add sub n d : ℕ) : Type 0 where
  on : (s : ℕ) → s ≤ n → d + s * sub ≡ from + s * add → On from add sub n d

-- one walk, which passed n cells
pub record Trailed (p : Phase) (from add sub n : ℕ) (l m : List ℕ) : Type 0 where
  pub size : length m ≡ length l
  pub labels : (d : ℕ) → (get_or m d 0 ≡ get_or l d 0) ⊎ (On from add sub n d × (get_or m d 0 ≡ p.todo)) ⊎ (get_or m d 0 ≡ p.mark)

-- a walk up an axis and one down
abbrev pub Near : ℕ → ℕ → ℕ → ℕ → ℕ → Type 0
Near from stride up down d = On from stride 0 up d ⊎ On from 0 stride down d

pub record Swept (p : Phase) (from stride up down : ℕ) (l m : List ℕ) : Type 0 where
  pub size : length m ≡ length l
  pub labels : (d : ℕ) → (get_or m d 0 ≡ get_or l d 0) ⊎ (Near from stride up down d × (get_or m d 0 ≡ p.todo)) ⊎ (get_or m d 0 ≡ p.mark)
