-- `list_hits::enter_triangle` meets its contract: the records of its sweep. Assumes nothing.
use mathlib.Core.Path.{sym}
use native.Mathlib.Omega.{arith}
use Rattle.list_record.specs.Record.{record_at}
use Rattle.marking.specs.Marked.{hits}
use Rattle.marking.specs.Painted.{left_in}
use Rattle.list_rows.specs.Rows.{gets}
use Rattle.list_rows.proofs.Entering.{entered_same, gets_same}
use Rattle.list_hits.proofs.Sweeping.{room_same}
use Rattle.list_hits.proofs.enter_triangle.Goals as goal

pub enter_block-requires : goal.enter_block-requires
enter_block-requires c = let a = c.args in let s = c.requires.table.1 in record {
  table = (c.requires.table.0, c.sweep_of-sweep.ensures.fit, c.sweep_of-sweep.ensures.axial);
  to_bound = (omega (arith, c.sweep_of-sweep.ensures.i_in, s.axis0.most), omega (arith, c.sweep_of-sweep.ensures.j_in, s.axis1.most), omega (arith, c.sweep_of-sweep.ensures.k_in, s.axis2.most), c.requires.table.2);
  room = room_same a.entrant.round.placing a.entrant.round.cells (gets a.entrant.triangle (hits a.ps.now a.ts.now a.laid.axes a.laid.placement a.entrant.triangle) a.records.now) (gets a.entrant.triangle (left_in c.sweep_of-sweep.result.block c.sweep_of-sweep.result.bands) a.records.now) a.records.now _
      (λ x l. gets_same a.entrant.triangle (hits a.ps.now a.ts.now a.laid.axes a.laid.placement a.entrant.triangle) (left_in c.sweep_of-sweep.result.block c.sweep_of-sweep.result.bands) a.records.now x (sym (c.sweep_of-sweep.ensures.cells (record_at a.records.now x).cell))) c.requires.room;
}

pub returns : goal.returns
returns c =
    let a = c.args in entered_same a.entrant.round.cells a.entrant.round.placing (gets a.entrant.triangle (left_in c.sweep_of-sweep.result.block c.sweep_of-sweep.result.bands) a.records.now) (gets a.entrant.triangle (hits a.ps.now a.ts.now a.laid.axes a.laid.placement a.entrant.triangle) a.records.now) _ _ _ _
    (λ x l. gets_same a.entrant.triangle (left_in c.sweep_of-sweep.result.block c.sweep_of-sweep.result.bands) (hits a.ps.now a.ts.now a.laid.axes a.laid.placement a.entrant.triangle) a.records.now x (c.sweep_of-sweep.ensures.cells (record_at a.records.now x).cell)) c.enter_block.ensures
