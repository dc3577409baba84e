use Rattle.ra_item.proofs.Canon.{written_read}
use Rattle.ra_item.proofs.law.written_is_read.Goals as goal

pub returns : goal.returns
returns c = written_read
