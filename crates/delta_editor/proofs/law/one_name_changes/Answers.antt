use Rattle.delta_editor.proofs.CallLemmas.{get-prop_put}
use Rattle.delta_editor.proofs.law.one_name_changes.Goals as goal

pub returns : goal.returns
returns c = get-prop_put
