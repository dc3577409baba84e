use Rattle.delta_editor.proofs.CallLemmas.{called-copied}
use Rattle.delta_editor.proofs.law.copied_is_the_source.Goals as goal

pub returns : goal.returns
returns c = called-copied
