use Rattle.delta_editor.proofs.CallLemmas.{all_called-filter}
use Rattle.delta_editor.proofs.law.closes_change_nothing.Goals as goal

pub returns : goal.returns
returns c = all_called-filter
