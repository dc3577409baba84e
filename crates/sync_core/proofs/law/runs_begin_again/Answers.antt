use Rattle.sync_core.proofs.Runs.{begins_again}
use Rattle.sync_core.proofs.law.runs_begin_again.Goals as goal

pub returns : goal.returns
returns c = begins_again
