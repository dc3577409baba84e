use Rattle.browse_wire.proofs.AskRead.{unknown}
use Rattle.browse_wire.proofs.law.unknown_is_told.Goals as goal

pub returns : goal.returns
returns c = unknown
