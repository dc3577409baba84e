use Rattle.svndiff.proofs.DeltaCauses.{refused_is_no_front}
use Rattle.svndiff.proofs.delta_law.refused_is_no_front.Goals as goal

pub returns : goal.returns
returns c = refused_is_no_front
