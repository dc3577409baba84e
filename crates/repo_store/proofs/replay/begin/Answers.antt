use Rattle.std.proofs.Common.{rules}
use Rattle.repo_store.proofs.Replaying.{begun_by}
use Rattle.repo_store.proofs.replay.begin.Goals as goal

pub returns-in-Ok-clause-begun : goal.returns-in-Ok-clause-begun
returns-in-Ok-clause-begun c = begun_by _ _ _ _ _ c.in_ok-identity.ensures.read c.in_ok-repo.ensures c.in-Ok.ensures.made

pub returns-in_err-identity-clause-bad : goal.returns-in_err-identity-clause-bad
returns-in_err-identity-clause-bad c is = c.in_err-identity.ensures.bad (search rules)
