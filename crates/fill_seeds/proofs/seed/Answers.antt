-- `fill_seeds::seed` meets its contract: a pass that has come to the first cell of layer k. Assumes nothing.
use mathlib.Core.Path.{◌≡◌, ap, ◌∙◌}
use Prim.Native.Nat.{ℕ, ◌*◌}
use native.Mathlib.Nat.{mul_comm}
use native.Mathlib.Omega.{arith}
use Rattle.grid.specs.Grid.{cells}
use Rattle.fill_seeds.proofs.Seeding.{within_seeded}
use Rattle.fill_seeds.proofs.seed.Goals as goal

pub returns : goal.returns
returns c =
    let a = c.args in
    let v = c.loop-k in
    let k : v.k ≡ a.r.r2 = omega arith in
    let e : v.k * (a.r.r0 * a.r.r1) ≡ cells a.r = ap (λ (x : ℕ). x * (a.r.r0 * a.r.r1)) k ∙ mul_comm a.r.r2 (a.r.r0 * a.r.r1) in
    within_seeded a.r (v.k * (a.r.r0 * a.r.r1)) a.labels.now v.labels c.requires.size e v.invariant
