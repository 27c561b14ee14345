-- `classes::with_part` meets its contract. Assumes nothing.
use mathlib.Core.Path.{sym, ◌∙◌}
use Rattle.classes.proofs.Naming.{with_none, with_same, with_other}
use Rattle.classes.proofs.with_part.Goals as goal

pub returns-then-class-eq-NO_CLASS : goal.returns-then-class-eq-NO_CLASS
returns-then-class-eq-NO_CLASS c = sym (with_none c.args.part c.args.class c.if-class-eq-NO_CLASS.true)

pub returns-then-class-part : goal.returns-then-class-part
returns-then-class-part c = c.if-class-part.true ∙ sym (with_same c.args.part c.args.class c.if-class-part.true)

pub returns : goal.returns
returns c = sym (with_other c.args.part c.args.class c.if-class-eq-NO_CLASS.false c.if-class-part.false)
