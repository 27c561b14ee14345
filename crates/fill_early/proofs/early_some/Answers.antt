-- `fill_early::early_some` meets its contract: cells that are not to walk, and do not walk, are idle. Assumes nothing.
use mathlib.Core.Path.{sym, ◌∙◌}
use native.Mathlib.Omega.{arith}
use Rattle.fill_early.proofs.EarlyLoop.{early_same_none}
use Rattle.fill_early.proofs.Sixteen.{others_rest, walker_is}
use Rattle.fill_early.proofs.early_some.Goals as goal

pub returns : goal.returns
returns c = record { early_same = early_same_none c.args.p c.requires.sheet.1 _ _ _ _ _; i_bound = (omega arith, others_rest c.args.p c.args.r c.args.l.now c.args.c.i c.args.c.j c.args.c.k _ _ c.number-n.ensures (λ v e. walker_is c.args.p.walkers c.args.p.todo v e ∙ sym c.unwrap_or-other.ensures) (c.some_of.ensures c.if-some_of.false)) }
