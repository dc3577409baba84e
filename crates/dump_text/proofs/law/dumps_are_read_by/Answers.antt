use Rattle.dump_text.proofs.Records.{dump_read}
use Rattle.dump_text.proofs.law.dumps_are_read_by.Goals as goal

pub returns : goal.returns
returns c = dump_read
