use Rattle.delta_editor.proofs.CallLemmas.{called-deleted}
use Rattle.delta_editor.proofs.law.deleted_is_gone.Goals as goal

pub returns : goal.returns
returns c = called-deleted
