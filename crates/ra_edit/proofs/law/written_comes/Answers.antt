use Rattle.ra_edit.proofs.NotRefused.{written_comes}
use Rattle.ra_edit.proofs.law.written_comes.Goals as goal

pub returns : goal.returns
returns c = written_comes c.written_is_read.ensures
