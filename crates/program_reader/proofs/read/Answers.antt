-- `program_reader::read` meets its contract: the head, and then the other records. Assumes nothing.
use Rattle.std.proofs.lemmas.Result.{err_from_is_err_and}
use mathlib.Core.Path.{sym, ◌∙◌}
use Rattle.program_reader.specs.Reading.{Read}
use Rattle.program_reader.proofs.read.Goals as goal

pub returns-in_err-head-clause-read : goal.returns-in_err-head-clause-read
returns-in_err-head-clause-read c =
    let p = err_from_is_err_and c.from_residual.result c.from_residual.ensures.1 in
    rw (p.1, p.2) (Read.no_head (sym c.take_head.ensures ∙ c.in_err-head.was))

pub returns-clause-read : goal.returns-clause-read
returns-clause-read c = Read.headed (sym c.take_head.ensures ∙ c.in_ok-head.was) c.read_on.ensures.reads
