use Rattle.svndiff.proofs.Standing.{refused_is_no_front}
use Rattle.svndiff.proofs.law.refused_is_no_front.Goals as goal

pub returns : goal.returns
returns c = refused_is_no_front
