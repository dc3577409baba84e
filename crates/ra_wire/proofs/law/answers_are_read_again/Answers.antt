use Rattle.ra_wire.proofs.ReadAgain.{answers_again}
use Rattle.ra_wire.proofs.law.answers_are_read_again.Goals as goal

pub returns : goal.returns
returns c = answers_again
