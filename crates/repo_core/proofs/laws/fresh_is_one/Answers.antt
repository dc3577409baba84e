use Rattle.repo_core.proofs.LawsOf.{fresh_is_one}
use Rattle.repo_core.proofs.laws.fresh_is_one.Goals as goal

pub returns : goal.returns
returns c = fresh_is_one
