-- `marking_checks::mesh_fault` meets its contract: where the first checks find nothing, every corner names a point. Assumes nothing.
use mathlib.Core.Path.{sym, ◌∙◌}
use Rattle.marking_mesh.proofs.Laws.{input_fine}
use Rattle.marking_checks.proofs.mesh_fault.Goals as goal

pub off_fault-requires : goal.off_fault-requires
off_fault-requires c = let a = c.args in
    let w = input_fine a.ps.now a.ts.now a.r a.placement a.len (sym c.input_fault.ensures ∙ c.in_ok-input_fault.was) in record { named = w.named; sound = w.sound }
