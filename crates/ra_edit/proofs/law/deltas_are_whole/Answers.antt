use Rattle.ra_edit.proofs.DeltaSays.{deltas_are_whole}
use Rattle.ra_edit.proofs.law.deltas_are_whole.Goals as goal

pub returns : goal.returns
returns g c = λ texts. deltas_are_whole (g.E.TextEditor.has_text texts)
