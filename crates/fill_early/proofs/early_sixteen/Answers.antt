-- `fill_early::early_sixteen` meets its contract: no walk from a cell that is not told changes anything (`untold_quiet`), and so the sixteen go by (`all_sixteen`). Assumes nothing.
use mathlib.Core.Path.{refl}
use Prim.Native.Nat.{ℕ, ◌+◌, ◌*◌, ◌≤◌}
use native.Mathlib.Omega.{arith}
use lib.ListN.{replicate}
use Rattle.grid.specs.declared.Cell.{Cell}
use Rattle.grid.specs.Grid.{InGrid}
use Rattle.grid.specs.Ways.{up_j, up_k}
use Rattle.fill_early.proofs.Looks.{step_up, step_down}
use Rattle.fill_early.proofs.Sixteen.{untold_quiet, all_sixteen, tells_as}
use Rattle.fill_early.proofs.early_sixteen.Goals as goal
use Rattle.fill_early.proofs.early_sixteen.Goals.{Start}

-- the cell d on is in the grid
on_in : (c : Start) (d : ℕ) → d ≤ 16 → InGrid c.args.r (record { i = c.args.c.i + d; j = c.args.c.j; k = c.args.c.k })
on_in c d h = record { i_in = omega (arith, c.requires.with_neighbours.1); j_in = c.requires.with_neighbours.2; k_in = c.requires.with_neighbours.3 }

pub near-of_j-requires : goal.near-of_j-requires
near-of_j-requires c =
    let r = c.args.r in
    (omega (arith, step_up r (record { i = c.args.c.i + 15; j = c.args.c.j; k = c.args.c.k }) (on_in (goal.at.near-of_j-requires c).Start 15 (omega arith)) up_j refl, c.step_if.ensures, c.requires.numbered.0, c.requires.sheet.0.size), omega (arith, step_down r (record { i = c.args.c.i + 0; j = c.args.c.j; k = c.args.c.k }) (on_in (goal.at.near-of_j-requires c).Start 0 (omega arith)) r.r0 c.args.c.j (omega arith), c.step_if-2.ensures, c.requires.numbered.0), c.near-of_i.ensures.0)

pub near-of_k-requires : goal.near-of_k-requires
near-of_k-requires c =
    let r = c.args.r in
    (omega (arith, step_up r (record { i = c.args.c.i + 15; j = c.args.c.j; k = c.args.c.k }) (on_in (goal.at.near-of_k-requires c).Start 15 (omega arith)) up_k refl, c.step_if-3.ensures, c.requires.numbered.0, c.requires.sheet.0.size), omega (arith, step_down r (record { i = c.args.c.i + 0; j = c.args.c.j; k = c.args.c.k }) (on_in (goal.at.near-of_k-requires c).Start 0 (omega arith)) (r.r0 * r.r1) c.args.c.k (omega arith), c.step_if-4.ensures, c.requires.numbered.0), c.near-of_j.ensures.0)

pub returns : goal.returns
returns c = let r = c.args.r in
    let z : Cell = record { i = c.args.c.i + 0; j = c.args.c.j; k = c.args.c.k } in
    let quiet = untold_quiet c.args.p r c.args.l.now c.args.c.i c.args.c.j c.args.c.k c.args.n _ c.changed_label-b.ensures c.requires.numbered.0 (replicate {A = ℕ} 16 0) c.near-of_i.result c.near-of_j.result c.near-of_k.result c.requires.with_neighbours.0 c.requires.with_neighbours.1 c.requires.with_neighbours.2 c.requires.with_neighbours.3 c.near-of_i.ensures.1 (tells_as c.near-of_i.result c.near-of_j.result c.step_if.ensures c.step_if-2.ensures c.near-of_j.ensures.1) (tells_as c.near-of_j.result c.near-of_k.result c.step_if-3.ensures c.step_if-4.ensures c.near-of_k.ensures.1) (omega (arith, step_down r z (on_in (goal.at.returns c).Start 0 (omega arith)) r.r0 c.args.c.j (omega arith), c.requires.numbered.0)) (omega (arith, step_down r z (on_in (goal.at.returns c).Start 0 (omega arith)) (r.r0 * r.r1) c.args.c.k (omega arith), c.requires.numbered.0)) in
    let s = all_sixteen c.args.p c.requires.sheet.1 r c.args.c.i c.args.c.j c.args.c.k c.args.n c.args.other c.near-of_k.result c.args.l.now c.args.before c.requires.with_neighbours.1 c.requires.with_neighbours.2 c.requires.with_neighbours.3 c.requires.numbered.0 quiet c.requires.numbered.1 c.requires.sheet.0 _ _ _ c.set_sixteen-a.ensures.acting_after in record { early_same = s.early_same; i_bound = (s.few, s.idle_unless) }
