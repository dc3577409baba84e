use Rattle.delta_editor.proofs.NestingLemmas.{edit_runs, whole}
use Rattle.delta_editor.proofs.law.nested_is_edit.Goals as goal

pub returns : goal.returns
returns c = λ calls. (whole calls, edit_runs calls)
