-- `fill_seeds::seed_row` meets its contract: three parts, one after another, or the one cell of a row of one. Assumes nothing.
use mathlib.Core.Path.{◌≡◌, subst}
use Prim.Native.Nat.{ℕ, ◌+◌, ◌-◌}
use native.Mathlib.Omega.{arith}
use Rattle.fill_seeds.specs.Seeds.{seed_at}
use Rattle.grid.specs.Passes.{Within}
use Rattle.fill_seeds.proofs.Seeding.{row_fits, one_alike, between_alike}
use Rattle.grid.proofs.Passes.{within_then}
use Rattle.fill_seeds.proofs.seed_row.Goals as goal

pub seed_part-requires : goal.seed_part-requires
seed_part-requires c = let f = row_fits c.args.r c.args.j c.args.k c.args.first c.requires.in_grid.0 c.requires.in_grid.1 in record { from_le_to = (omega arith, omega (arith, f, c.requires.sheet.size, c.requires.in_grid.0.i_in)); in_grid = (c.requires.in_grid.0, one_alike c.args.r c.args.j c.args.k c.args.first c.requires.in_grid.0 c.requires.in_grid.1 0 c.args.first c.requires.in_grid.0.i_in (omega arith)) }

pub seed_part-requires-2 : goal.seed_part-requires-2
seed_part-requires-2 c = let f = row_fits c.args.r c.args.j c.args.k c.args.first c.requires.in_grid.0 c.requires.in_grid.1 in
    let i = c.requires.in_grid.0.i_in in record { from_le_to = (omega (arith, i, c.if-n-eq1.false), omega (arith, f, c.seed_part.auto.labels, c.requires.sheet.size)); in_grid = (record { i_in = omega (arith, i, c.if-n-eq1.false); j_in = c.requires.in_grid.0.j_in; k_in = c.requires.in_grid.0.k_in }, between_alike c.args.r c.args.j c.args.k c.args.first c.requires.in_grid.0 c.requires.in_grid.1) }

pub seed_part-requires-3 : goal.seed_part-requires-3
seed_part-requires-3 c = let f = row_fits c.args.r c.args.j c.args.k c.args.first c.requires.in_grid.0 c.requires.in_grid.1 in
    let i = c.requires.in_grid.0.i_in in record { from_le_to = (omega arith, omega (arith, i, f, c.seed_part-2.auto.labels, c.seed_part.auto.labels, c.requires.sheet.size)); in_grid = (record { i_in = omega (arith, i); j_in = c.requires.in_grid.0.j_in; k_in = c.requires.in_grid.0.k_in }, one_alike c.args.r c.args.j c.args.k c.args.first c.requires.in_grid.0 c.requires.in_grid.1 (c.args.r.r0 - 1) (c.args.first + c.args.r.r0 - 1) (omega (arith, i)) (omega (arith, i))) }

pub returns : goal.returns
returns c =
    let i = c.requires.in_grid.0.i_in in
    let e : c.args.first + c.args.r.r0 - 1 + 1 ≡ c.args.first + c.args.r.r0 = omega (arith, i) in
    let rule = seed_at c.args.r in
    subst (λ (n : ℕ). Within c.args.first n rule c.args.labels.now c.seed_part-3.new.labels) e
    (within_then rule _ _ _ _ _ _ (omega (arith, i)) (omega arith)
    (within_then rule _ _ _ _ _ _ (omega arith) (omega (arith, i, c.if-n-eq1.false)) c.seed_part.ensures c.seed_part-2.ensures) c.seed_part-3.ensures)
