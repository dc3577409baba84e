use Rattle.browse_wire.proofs.AskRead.{formed}
use Rattle.browse_wire.proofs.law.asks_are_read.Goals as goal

pub returns : goal.returns
returns c = formed
