use Rattle.delta_editor.proofs.CallLemmas.{called-apart}
use Rattle.delta_editor.proofs.law.elsewhere_stays.Goals as goal

pub returns : goal.returns
returns c = called-apart
