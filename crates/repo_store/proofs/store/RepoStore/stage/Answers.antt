use Rattle.repo_core.specs.Refusals.{by_repository}
use Rattle.repo_store.specs.Words.{revisions_of}
use Rattle.repo_store.proofs.store.RepoStore.stage.Goals as goal

pub returns-clause-stages : goal.returns-clause-stages
returns-clause-stages g c = c.ready.ensures.stages c.args.entry (by_repository (revisions_of c.args.self.now) c.args.entry) c.judge-judged.ensures.judged
