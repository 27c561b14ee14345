-- `capi::vm_open_cell` meets its contract: what the call tells, flat. Assumes nothing.
use mathlib.Core.Path.{ap}
use Rattle.grid.specs.declared.Cell.{Cell}
use Rattle.edits.specs.Edits.{opening}
use Rattle.capi.proofs.Laws.{edit_tells}
use Rattle.capi.proofs.vm_open_cell.Goals as goal

pub returns-clause-tells : goal.returns-clause-tells
returns-clause-tells c =
    (edit_tells _ _ (opening _) (opening _) _ _ _ _ c.into.ensures (ap (λ (d : Cell). opening d) c.into-2.ensures) c.from.ensures c.open_cell.ensures.ends c.open_cell.ensures.flooded).0
