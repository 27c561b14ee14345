-- `fill_early::early_group` meets its contract (`group_covers`). Assumes nothing.
use mathlib.Core.Path.{sym, subst, ◌∙◌}
use Prim.Native.Nat.{ℕ}
use native.Mathlib.Omega.{arith}
use lib.ListN.{set}
use Rattle.grid.proofs.Counts.{one_if}
use Rattle.fill_groups.specs.Groups.{Covers}
use Rattle.fill_early.proofs.EarlyLoop.{group_covers}
use Rattle.fill_early.proofs.early_group.Goals as goal

pub returns : goal.returns
returns c = let g = c.requires.grouped.0 in record { early_same = c.early_rows-a.ensures.early_same; upper_bound = (omega (arith, c.early_rows-a.ensures.from_bound.0, g.ends), subst (λ (v : ℕ). Covers c.args.p c.args.r c.early_rows-a.new.l (set c.args.table.now c.place-n.result v)) (sym (c.from.ensures ∙ one_if c.early_rows-a.result.acting)) (group_covers c.args.p c.requires.sheet.1 c.args.r _ _ _ _ _ g c.requires.sheet.0.sound c.requires.grouped.1 c.early_rows-a.result.acting c.early_rows-a.ensures.early_same c.requires.sheet.2 c.early_rows-a.ensures.from_bound.1 c.place-n.ensures.0 (omega (arith, c.place-n.ensures.1, c.requires.sheet.2.size)))) }
