-- Laws of paths, over the set of cells to start from and the set of cells that may be passed. Assumes nothing.
use mathlib.Core.Logic.{◌⊎◌, inl, inr, ⊎_elim, ◌↔◌}
use mathlib.Core.Path.{◌≡◌, refl, sym, subst}
use Rattle.grid.specs.declared.Axes.{Axes}
use Rattle.grid.specs.declared.Cell.{Cell}
use Rattle.grid.specs.Grid.{InGrid, Face}
use Rattle.grid.specs.Paths.{Joined, starts, steps, Only}
use Rattle.grid.proofs.Cells.{swap_face}

module _ {r : Axes} {Seed Pass : Cell → Type 0} where
  -- a path ends at a cell of the grid
  pub joined_in : {c : Cell} → Joined r Seed Pass c → InGrid r c
  joined_in (starts h s) = h
  joined_in (steps u f h p) = h

  -- that is a start or may be passed
  pub joined_kind : {c : Cell} → Joined r Seed Pass c → Seed c ⊎ Pass c
  joined_kind (starts h s) = inl s
  joined_kind (steps u f h p) = inr p

  -- the joined cells are the least set that has the starts and, with a cell, its neighbours that may be passed
  pub joined_least : (Q : Cell → Type 0) → ((c : Cell) → InGrid r c → Seed c → Q c)
      → ((c d : Cell) → Q c → Face c d → InGrid r d → Pass d → Q d) → (c : Cell) → Joined r Seed Pass c → Q c
  joined_least Q a b c (starts h s) = a c h s
  joined_least Q a b d (steps {c = c} u f h p) = b c d (joined_least Q a b c u) f h p

  -- a path from the end of a path
  pub joined_trans : {c : Cell} → Joined r (Joined r Seed Pass) Pass c → Joined r Seed Pass c
  joined_trans (starts h s) = s
  joined_trans (steps u f h p) = steps (joined_trans u) f h p

  -- a path has a first cell
  pub joined_from : {d : Cell} → Joined r Seed Pass d → (c : Cell) × Seed c × Joined r (Only c) Pass d
  joined_from (starts {c = c} h s) = (c, s, starts h refl)
  joined_from (steps u f h p) = let w = joined_from u in (w.0, w.1, steps w.2 f h p)

-- more starts and more cells to pass keep every path
pub joined_within : {r : Axes} {S S' P P' : Cell → Type 0} {c : Cell} → ((d : Cell) → InGrid r d → S d → S' d) → ((d : Cell) → InGrid r d → P d → P' d) → Joined r S P c → Joined r S' P' c
joined_within a b (starts {c = c} h s) = starts h (a c h s)
joined_within a b (steps {d = d} u f h p) = steps (joined_within a b u) f h (b d h p)

pub joined_more : {r : Axes} {S S' P P' : Cell → Type 0} {c : Cell} → ((d : Cell) → S d → S' d) → ((d : Cell) → P d → P' d) → Joined r S P c → Joined r S' P' c
joined_more a b = joined_within (λ d _. a d) (λ d _. b d)

-- from a cell of one set or of another
pub joined_either : {r : Axes} {S T P : Cell → Type 0} {c : Cell} → Joined r (λ d. S d ⊎ T d) P c ↔ (Joined r S P c ⊎ Joined r T P c)
joined_either {r} {S} {T} {P} = (parts, ⊎_elim (joined_more (λ d x. inl x) (λ d p. p)) (joined_more (λ d x. inr x) (λ d p. p)))
  where
    parts : {c : Cell} → Joined r (λ d. S d ⊎ T d) P c → Joined r S P c ⊎ Joined r T P c
    parts (starts h s) = ⊎_elim (λ x. inl (starts h x)) (λ x. inr (starts h x)) s
    parts (steps u f h p) = ⊎_elim (λ x. inl (steps x f h p)) (λ x. inr (steps x f h p)) (parts u)

-- a path leads back: its first cell must be one that may be passed
pub joined_back : {r : Axes} {P : Cell → Type 0} {c d : Cell} → P c → Joined r (Only c) P d → Joined r (Only d) P c
joined_back {r} {P} {c} p (starts {c = d} h s) = starts (subst (InGrid r) s h) (sym s)
joined_back {r} {P} {c} p (steps {c = b} {d = d} u f h q) =
    joined_trans (joined_more (λ x (e : x ≡ b). subst (Joined r (Only d) P) (sym e) before) (λ x y. y) (joined_back p u))
  where
    pass : P b
    pass = ⊎_elim (λ (e : b ≡ c). subst P (sym e) p) (λ y. y) (joined_kind u)

    before : Joined r (Only d) P b
    before = steps (starts h refl) (swap_face f) (joined_in u) pass
