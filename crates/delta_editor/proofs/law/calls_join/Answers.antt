use Rattle.delta_editor.proofs.CallLemmas.{all_called-append}
use Rattle.delta_editor.proofs.law.calls_join.Goals as goal

pub returns : goal.returns
returns c = all_called-append
