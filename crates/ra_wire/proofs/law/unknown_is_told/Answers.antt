use Rattle.ra_wire.proofs.Judged.{unknown}
use Rattle.ra_wire.proofs.law.unknown_is_told.Goals as goal

pub returns : goal.returns
returns c = unknown
