use Rattle.repo_core.proofs.LawsOf.{sets_make_trees}
use Rattle.repo_core.proofs.laws.sets_make_trees.Goals as goal

pub returns : goal.returns
returns c = sets_make_trees
