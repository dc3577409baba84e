use Rattle.browse_wire.proofs.ReportRead.{formed}
use Rattle.browse_wire.proofs.law.reports_are_read.Goals as goal

pub returns : goal.returns
returns c = formed
