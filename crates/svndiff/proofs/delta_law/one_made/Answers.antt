use Rattle.svndiff.proofs.DeltaRead.{one_made}
use Rattle.svndiff.proofs.delta_law.one_made.Goals as goal

pub returns : goal.returns
returns c = one_made
