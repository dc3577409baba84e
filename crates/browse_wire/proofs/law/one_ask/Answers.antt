use Rattle.browse_wire.proofs.AskRead.{one_ask}
use Rattle.browse_wire.proofs.law.one_ask.Goals as goal

pub returns : goal.returns
returns c = one_ask
