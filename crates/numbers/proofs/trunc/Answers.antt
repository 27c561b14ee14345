-- `numbers::trunc` meets its contract. Assumes nothing.
use mathlib.Core.Path.{◌∙◌}
use Rattle.numbers.proofs.Laws.{trunc_negative, trunc_positive}
use Rattle.numbers.proofs.trunc.Goals as goal

pub returns-then-x : goal.returns-then-x
returns-then-x c = c.ceil.ensures ∙ trunc_negative c.args.x c.if-x.true

pub returns : goal.returns
returns c = c.floor_scaled.ensures ∙ trunc_positive c.args.x c.if-x.false
