-- `program_summary::map_on` meets its contract: too many cells, or the map. Assumes nothing.
use Rattle.std.specs.Prelude.{Ok}
use mathlib.Core.Path.{sym}
use borrow.Author.Tests.{lt-ltb, le-ltb}
use Rattle.grid.specs.Grid.{cells}
use Rattle.grid.proofs.Checks.{fault_here, fault_not}
use Rattle.program_summary.specs.Summary.{Mapped}
use Rattle.program_summary.proofs.map_on.Goals as goal
use Rattle.grid.specs.declared.Reason.TheVariants.{BadAxis}

pub returns-then-many : goal.returns-then-many
returns-then-many c =
    rw c.at.ensures (Mapped.many (sym (fault_here _ BadAxis 0 (Ok tt) (lt-ltb 32768 (cells c.args.r) c.if-many.true))))

pub returns : goal.returns
returns c =
    Mapped.few (sym (fault_not _ BadAxis 0 (Ok tt) (le-ltb 32768 (cells c.args.r) c.if-many.false))) c.mark_and_tally.ensures
