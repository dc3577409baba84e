use Rattle.ra_wire.proofs.Judged.{formed}
use Rattle.ra_wire.proofs.law.forms_are_read.Goals as goal

pub returns : goal.returns
returns c = formed
