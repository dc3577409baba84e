use Rattle.ra_wire.proofs.Prototypes.{prototypes}
use Rattle.ra_wire.proofs.law.prototypes_are_read.Goals as goal

pub returns : goal.returns
returns c = prototypes
