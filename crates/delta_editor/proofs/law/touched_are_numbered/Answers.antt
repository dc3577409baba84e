use Rattle.delta_editor.proofs.CallLemmas.{called-numbered}
use Rattle.delta_editor.proofs.law.touched_are_numbered.Goals as goal

pub returns : goal.returns
returns c = called-numbered
