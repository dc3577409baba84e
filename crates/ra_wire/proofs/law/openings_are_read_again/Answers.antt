use Rattle.ra_wire.proofs.ReadAgain.{openings_again}
use Rattle.ra_wire.proofs.law.openings_are_read_again.Goals as goal

pub returns : goal.returns
returns c = openings_again
