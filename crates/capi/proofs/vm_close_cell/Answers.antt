-- `capi::vm_close_cell` meets its contract: what the call tells, flat. Assumes nothing.
use mathlib.Core.Path.{ap}
use Rattle.grid.specs.declared.Cell.{Cell}
use Rattle.edits.specs.Edits.{closing}
use Rattle.capi.proofs.Laws.{edit_tells}
use Rattle.capi.proofs.vm_close_cell.Goals as goal

pub returns-clause-tells : goal.returns-clause-tells
returns-clause-tells c =
    (edit_tells _ _ (closing _) (closing _) _ _ _ _ c.into.ensures (ap (λ (d : Cell). closing d) c.into-2.ensures) c.from.ensures c.close_cell.ensures.ends c.close_cell.ensures.flooded).0
