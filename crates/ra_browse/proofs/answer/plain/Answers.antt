use Rattle.ra_serve.proofs.Adding.{more_by}
use Rattle.ra_browse.proofs.answer.plain.Goals as goal

pub returns-in_default-clause-adds : goal.returns-in_default-clause-adds
returns-in_default-clause-adds g c = more_by g.W.Write.contents c.args.out _ c.deny.result c.deny.ensures
