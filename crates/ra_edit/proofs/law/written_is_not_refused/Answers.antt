use Rattle.ra_edit.proofs.NotRefused.{written_is_not_refused}
use Rattle.ra_edit.proofs.law.written_is_not_refused.Goals as goal

pub returns : goal.returns
returns g c = written_is_not_refused g.E.Editor.shows g.E.Editor.began g.E.Editor.refuses c.written_is_read.ensures
