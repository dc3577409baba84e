use Rattle.browse_wire.proofs.UrlsRead.{judged}
use Rattle.browse_wire.proofs.url.SessionUrl.parse.Goals as goal

pub returns-clause-judged : goal.returns-clause-judged
returns-clause-judged c = judged c.args.url.now c.read.result c.read.ensures
