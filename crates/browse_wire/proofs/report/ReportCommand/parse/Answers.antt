use Rattle.browse_wire.proofs.ReportRead.{judged}
use Rattle.browse_wire.proofs.report.ReportCommand.parse.Goals as goal

pub returns-clause-judged : goal.returns-clause-judged
returns-clause-judged c = judged c.args.item c.read.result c.read.ensures
