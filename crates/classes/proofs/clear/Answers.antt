-- `classes::clear` meets its contract: the front is filled, and the rest stays. Assumes nothing.
use Rattle.classes.specs.Classes.{no_class}
use Rattle.classes.proofs.Naming.{classes_filled}
use Rattle.classes.proofs.clear.Goals as goal

pub returns : goal.returns
returns c = classes_filled c.args.count no_class c.args.classes.now _ c.requires (c.fill.ensures.after (λ y h. h))
