use Rattle.sync_core.proofs.Table.{needs-are-met}
use Rattle.sync_core.proofs.law.needs_are_met.Goals as goal

pub returns : goal.returns
returns c = needs-are-met
