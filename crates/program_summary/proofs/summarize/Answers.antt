-- `program_summary::summarize` meets its contract: the reading, and then the map. Assumes nothing.
use Rattle.std.proofs.lemmas.Result.{err_from_is_err_and}
use mathlib.Core.Path.{subst}
use Rattle.grid.specs.Answers.{Outcome}
use Rattle.program_reader.specs.declared.Reading.{Reading}
use Rattle.program_reader.specs.Reading.{Read, stream_in}
use Rattle.program_summary.specs.Summary.{Summarizes}
use Rattle.program_summary.proofs.summarize.Goals as goal

pub returns-in_err-read : goal.returns-in_err-read
returns-in_err-read c =
    let p = err_from_is_err_and c.from_residual.result c.from_residual.ensures.1 in
    rw (p.1, p.2) (Summarizes.faulty (subst (λ (x : Outcome Reading). Read c.args.input.now (stream_in x c.read.new.ps c.read.new.ts)) c.in_err-read.was c.read.ensures.read))

pub returns : goal.returns
returns c =
    Summarizes.complete (subst (λ (x : Outcome Reading). Read c.args.input.now (stream_in x c.read.new.ps c.read.new.ts)) c.in_ok-read.was c.read.ensures.read) c.map_of.ensures
