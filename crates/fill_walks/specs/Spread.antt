-- What a phase does that has no walkers and marks no surface, told by paths. Definitions only.
use Rattle.std.specs.Prelude.{◌⊎◌, ◌≡◌, None, List, ℕ, length}
use Rattle.grid.specs.declared.Axes.{Axes}
use Rattle.grid.specs.declared.Cell.{Cell}
use Rattle.grid.specs.Grid.{InGrid, at}
use Rattle.grid.specs.Paths.{Joined}
use Rattle.grid.specs.Labels.{SURFACE}
use Rattle.fill_walks.specs.declared.Phase.{Phase}
use Rattle.fill_walks.specs.Run.{Proper}

-- such a phase
pub record Plain (p : Phase) : Type 0 where
  pub proper : Proper p
  pub nobody : p.walkers ≡ None
  pub unmarked : p.mark ≡ SURFACE
  pub apart : p.pass ≡ p.todo → ⊥

-- a path leads to the cell, from one that is to walk through cells that are passed
abbrev pub Reached : Phase → Axes → List ℕ → Cell → Type 0
Reached p r l = Joined r (λ c. at r l c ≡ p.todo) (λ c. at r l c ≡ p.pass)

-- what is reached takes the set label, and all else stays
pub record Spread (p : Phase) (r : Axes) (before after : List ℕ) : Type 0 where
  pub size : length after ≡ length before
  pub cells : (c : Cell) → InGrid r c →
      (Reached p r before c × (at r after c ≡ p.done))
      ⊎ ((Reached p r before c → ⊥) × (at r after c ≡ at r before c))
