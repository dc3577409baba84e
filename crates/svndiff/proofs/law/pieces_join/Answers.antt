use Rattle.svndiff.proofs.Runs.{reading-append}
use Rattle.svndiff.proofs.law.pieces_join.Goals as goal

pub returns : goal.returns
returns c = λ s first rest. reading-append s first rest
