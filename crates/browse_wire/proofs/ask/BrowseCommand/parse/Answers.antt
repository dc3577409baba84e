use Rattle.browse_wire.proofs.AskRead.{judged}
use Rattle.browse_wire.proofs.ask.BrowseCommand.parse.Goals as goal

pub returns-clause-judged : goal.returns-clause-judged
returns-clause-judged c = judged c.args.item c.read.result c.read.ensures
