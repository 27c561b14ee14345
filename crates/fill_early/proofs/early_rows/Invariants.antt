-- `fill_early::early_rows` meets its contract (`Rows`). Assumes nothing.
use Rattle.fill_early.proofs.EarlyLoop.{Rows}
use Rattle.fill_early.proofs.early_rows.Given as goal

abbrev pub invariant-loop-k : goal.invariant-loop-k
invariant-loop-k l = Rows l.p l.r l.slabs.from l.slabs.to l.j l.fn.g.layers.from l.fn.g.layers.to l.initial.l l.before l.l l.walked l.k l.acting
