use Rattle.ra_edit.proofs.WrittenReceived.{written_is_received}
use Rattle.ra_edit.proofs.law.written_is_received.Goals as goal

pub returns : goal.returns
returns c = written_is_received c.written_is_read.ensures
