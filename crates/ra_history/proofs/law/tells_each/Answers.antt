use Rattle.ra_history.proofs.Logs.{tells_each}
use Rattle.ra_history.proofs.law.tells_each.Goals as goal

pub returns : goal.returns
returns c = tells_each
