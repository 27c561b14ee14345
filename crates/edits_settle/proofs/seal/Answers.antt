-- `edits_settle::seal` meets its contract: a trip, and a turn. Assumes nothing.
use mathlib.Core.Path.{refl}
use Rattle.edits_settle.specs.Closing.{way_out, cut_off}
use Rattle.edits_settle.proofs.seal.Goals as goal

pub returns-then-w : goal.returns-then-w
returns-then-w c = way_out _ c.reach-w.ensures c.if-w.true refl refl

pub returns : goal.returns
returns c = cut_off _ _ c.reach-w.ensures c.if-w.false c.relabel.ensures refl refl
