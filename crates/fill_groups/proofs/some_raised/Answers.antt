-- `fill_groups::some_raised` meets its contract (`Lying`). Assumes nothing.
use mathlib.Core.Path.{◌≡◌, sym, ap, ◌∙◌}
use Prim.Native.Nat.{ℕ, ◌+◌, ◌*◌, ◌/◌}
use native.Mathlib.Omega.{arith}
use lib.ListN.{get_or}
use Rattle.fill_groups.specs.Groups.{place_at}
use Rattle.fill_groups.proofs.Cover.{part_length, part_at}
use Rattle.fill_groups.proofs.some_raised.Goals as goal

pub returns : goal.returns
returns c =
    λ e j k h g.
    let s : ℕ = k / 16 * 256 + j in
    let t = c.args.table.now in
    let n : ℕ = c.place-first.result in
    let q : n + s ≡ place_at c.args.i j k = omega (arith, c.place-first.ensures.0) in
    ap (λ (x : ℕ). get_or t x 0) (sym q)
    ∙ sym (part_at t n 4096 s (omega arith))
    ∙ c.loop-group.invariant.none e s (omega (arith, part_length t n 4096 (omega (arith, c.place-first.ensures.0)), c.loop-group-test.false))
