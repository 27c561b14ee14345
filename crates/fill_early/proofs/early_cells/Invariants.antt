-- `fill_early::early_cells` meets its contract: up to here cells were set before their turn, or are idle, or one may act (`EarlyLoop`). Assumes nothing.
use Rattle.fill_early.proofs.EarlyLoop.{EarlyLoop}
use Rattle.fill_early.proofs.early_cells.Given as goal

abbrev pub invariant-loop-i : goal.invariant-loop-i
invariant-loop-i l = EarlyLoop l.p l.r l.fn.slabs.from l.fn.slabs.to l.j l.k l.initial.l l.before l.l l.walked l.i l.acting
