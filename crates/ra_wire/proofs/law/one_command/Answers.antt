use Rattle.ra_wire.proofs.Judged.{one_command}
use Rattle.ra_wire.proofs.law.one_command.Goals as goal

pub returns : goal.returns
returns c = one_command
