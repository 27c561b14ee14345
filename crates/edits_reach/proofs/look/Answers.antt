-- `edits_reach::look` meets its contract. Assumes nothing.
use mathlib.Core.Path.{subst}
use Rattle.edits_reach.specs.Reach.{way_of}
use Rattle.grid.specs.Ways.{beside}
use Prim.Native.Nat.{ℕ, ◌<◌}
use native.Mathlib.Omega.{arith}
use Rattle.grid.proofs.Cells.{num_lt}
use Rattle.grid.proofs.Ways.{beside_in}
use Rattle.edits_reach.proofs.look.Goals as goal

pub bounds-l-m : goal.bounds-l-m
bounds-l-m c =
    let a = c.args in
    let h = beside_in a.r a.c (way_of a.d) c.requires.in_grid.0 (subst (λ (x : ℕ). 0 < x) c.room_for.ensures c.if-room_for-gt0.true) in
    omega (arith, c.number_ahead-m.ensures, num_lt a.r (beside (way_of a.d) a.c) h, c.requires.sheet.size)
