use Rattle.svndiff.proofs.DeltaRuns.{reading-append}
use Rattle.svndiff.proofs.delta_law.pieces_join.Goals as goal

pub returns : goal.returns
returns c = reading-append
