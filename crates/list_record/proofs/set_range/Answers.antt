-- `list_record::set_range` meets its contract: two stores. Assumes nothing.
use Rattle.list_record.proofs.Records.{range_put}
use Rattle.list_record.proofs.set_range.Goals as goal

pub returns : goal.returns
returns c = range_put c.args.records.now c.args.p c.args.start c.args.end c.requires
