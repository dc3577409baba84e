use Rattle.repo_core.proofs.SetsThere.{set_there, set_makes}
use Rattle.repo_core.proofs.repo.Repo.set.Goals as goal

pub returns-clause-there : goal.returns-clause-there
returns-clause-there c = λ h. set_there c.args.self.now c.args.number c.set_at.result c.is_repository.ensures c.set_at.ensures h

pub returns-clause-makes : goal.returns-clause-makes
returns-clause-makes c = set_makes c.args.self.now c.args.number c.set_at.result c.is_repository.ensures c.set_at.ensures
