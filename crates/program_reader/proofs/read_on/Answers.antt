-- `program_reader::read_on` meets its contract: the records one at a time. Assumes nothing.
use Rattle.std.proofs.lemmas.Result.{err_from_is_err_and}
use Rattle.std.specs.Prelude.{Ok}
use mathlib.Core.Path.{sym, ap, ◌∙◌}
use Rattle.program_reader.proofs.Readings.{asked, one_point, one_triangle}
use Rattle.program_reader.specs.Reading.{Reads}
use Rattle.program_reader.proofs.read_on.Goals as goal
use Rattle.program_reader.proofs.read_on.Goals.{in-Point, in-Triangle}

pub returns-in_err-record-clause-reads : goal.returns-in_err-record-clause-reads
returns-in_err-record-clause-reads c =
    let w = c.loop-record.invariant in
    let p = err_from_is_err_and c.from_residual.result c.from_residual.ensures.1 in
    rw (p.1, p.2) (w.rest _ (Reads.faulty (asked _ _ _ _ _ _ _ w _ (sym c.in_err-record.was ∙ c.take_record.ensures))))

pub returns-in-End : goal.returns-in-End
returns-in-End c = let w = c.loop-record.invariant in record { reads = w.rest _ (Reads.end (asked _ _ _ _ _ _ _ w _ (ap Ok (sym c.in-End.is) ∙ sym c.in_ok-record.was ∙ c.take_record.ensures))); few = ((w.points_in.few, w.triangles_in.few), w.points_in.room, w.triangles_in.room) }

pub loop-record-preserved : goal.loop-record-preserved
loop-record-preserved c = elim c.match-record.branch [
  | in-Point w ↦
      rw (w.ps-is, w.ts-is, w.points-is, w.triangles-is)
      (one_point _ _ _ _ _ _ _ c.loop-record.invariant _ _ (ap Ok (sym w.in-Point.is) ∙ sym c.in_ok-record.was ∙ c.take_record.ensures) w.put_point.ensures)
  | in-Triangle w ↦
      rw (w.ps-is, w.ts-is, w.points-is, w.triangles-is)
      (one_triangle _ _ _ _ _ _ _ c.loop-record.invariant _ _ (ap Ok (sym w.in-Triangle.is) ∙ sym c.in_ok-record.was ∙ c.take_record.ensures) w.put_corners.ensures)
]
