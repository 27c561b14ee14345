-- `list_record::read` meets its contract: each number stands where the layout has it. Assumes nothing.
use mathlib.Core.Path.{refl}
use Rattle.list_record.specs.Record.{record_at}
use Rattle.list_record.proofs.read.Goals as goal

pub returns : goal.returns
unfolding record_at
returns c = refl
