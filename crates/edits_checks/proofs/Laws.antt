-- A law of specs/Checks.antt: what it is for a cell to be of the grid. Assumes nothing.
use mathlib.Core.Bool.{true, ◌&&◌}
use mathlib.Core.Logic.{◌↔◌}
use mathlib.Core.Path.{◌≡◌}
use lib.Dec.{ltb}
use borrow.Author.Tests.{ltb-true, lt-ltb}
use Rattle.grid.specs.declared.Axes.{Axes}
use Rattle.grid.specs.declared.Cell.{Cell}
use Rattle.grid.specs.Grid.{InGrid}
use Rattle.grid.proofs.First.{both_true}
use Rattle.edits_checks.specs.Checks.{in_grid}

-- 12 is given exactly for a cell that is not of the grid
pub in_grid_lem : (r : Axes) (c : Cell) → (in_grid r c ≡ true) ↔ InGrid r c
in_grid_lem r c = (to, back)
  where
    to : in_grid r c ≡ true → InGrid r c
    to h =
        let p = both_true (ltb c.i r.r0 && ltb c.j r.r1) (ltb c.k r.r2) h in
        let q = both_true (ltb c.i r.r0) (ltb c.j r.r1) p.0 in
        record { i_in = ltb-true c.i r.r0 q.0; j_in = ltb-true c.j r.r1 q.1; k_in = ltb-true c.k r.r2 p.1 }

    back : InGrid r c → in_grid r c ≡ true
    back h = λ t. (lt-ltb c.i r.r0 h.i_in t && lt-ltb c.j r.r1 h.j_in t) && lt-ltb c.k r.r2 h.k_in t
