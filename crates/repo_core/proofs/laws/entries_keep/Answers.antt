use Rattle.repo_core.proofs.LawsOf.{entries_keep}
use Rattle.repo_core.proofs.laws.entries_keep.Goals as goal

pub returns : goal.returns
returns c = entries_keep
