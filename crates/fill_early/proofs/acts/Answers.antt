-- `fill_early::acts` meets its contract: what stands a step away on each axis is what the six neighbours have (`quiet_near`). Assumes nothing.
use mathlib.Core.Path.{refl}
use Prim.Native.Nat.{◌*◌}
use native.Mathlib.Omega.{arith}
use Rattle.grid.specs.Ways.{up_j, up_k}
use Rattle.grid.proofs.Checks.{or_false}
use Rattle.fill_early.proofs.Looks.{step_up, step_down, quiet_near, near_as}
use Rattle.fill_early.proofs.acts.Goals as goal

pub changes_near-of_j-requires : goal.changes_near-of_j-requires
changes_near-of_j-requires c =
    let r = c.args.r in
    let d = c.args.c in
    (omega (arith, step_up r d c.requires.in_grid.0 up_j refl, c.step_if-3.ensures, c.requires.in_grid.1, c.requires.sheet.size), omega (arith, step_down r d c.requires.in_grid.0 r.r0 d.j (omega arith), c.step_if-4.ensures, c.requires.in_grid.1))

pub changes_near-of_k-requires : goal.changes_near-of_k-requires
changes_near-of_k-requires c =
    let r = c.args.r in
    let d = c.args.c in
    (omega (arith, step_up r d c.requires.in_grid.0 up_k refl, c.step_if-5.ensures, c.requires.in_grid.1, c.requires.sheet.size), omega (arith, step_down r d c.requires.in_grid.0 (r.r0 * r.r1) d.k (omega arith), c.step_if-6.ensures, c.requires.in_grid.1))

pub returns : goal.returns
returns c =
    λ e. let q = or_false _ _ e in
    let s = or_false _ _ q.0 in
    quiet_near c.args.r c.args.c c.requires.in_grid.0 c.args.l.now c.args.p
    (near_as c.args.p c.args.l.now c.requires.in_grid.1 c.step_if.ensures c.step_if-2.ensures (c.changes_near-of_i.ensures s.0))
    (near_as c.args.p c.args.l.now c.requires.in_grid.1 c.step_if-3.ensures c.step_if-4.ensures (c.changes_near-of_j.ensures s.1))
    (near_as c.args.p c.args.l.now c.requires.in_grid.1 c.step_if-5.ensures c.step_if-6.ensures (c.changes_near-of_k.ensures q.1))
