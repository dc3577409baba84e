use Rattle.svndiff.proofs.DeltaTexts.{deltas_are_texts}
use Rattle.svndiff.proofs.delta_law.deltas_are_texts.Goals as goal

pub returns : goal.returns
returns c = deltas_are_texts
