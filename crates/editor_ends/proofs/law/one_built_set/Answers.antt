use Rattle.editor_ends.proofs.OneBuilt.{one_built}
use Rattle.editor_ends.proofs.law.one_built_set.Goals as goal

pub returns : goal.returns
returns c = one_built
