use Rattle.ra_edit.proofs.WrittenReceived.{written_is_taken}
use Rattle.ra_edit.proofs.law.written_is_taken.Goals as goal

pub returns : goal.returns
returns c = written_is_taken c.written_is_read.ensures
