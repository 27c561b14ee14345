-- `list_record::write` meets its contract: six stores, one behind the other. Assumes nothing.
use Rattle.list_record.proofs.Records.{written_record}
use Rattle.list_record.proofs.write.Goals as goal

pub returns : goal.returns
returns c = written_record _ c.args.e c.args.records.now c.requires.width_in_bounds
