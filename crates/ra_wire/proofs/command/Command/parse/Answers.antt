use Rattle.ra_wire.proofs.Judged.{judged}
use Rattle.ra_wire.proofs.command.Command.parse.Goals as goal

pub returns-clause-judged : goal.returns-clause-judged
returns-clause-judged c = judged c.args.item c.read.result c.read.ensures
