use Rattle.std.proofs.Common.{length}
use Rattle.repo_core.specs.Refusals.{by_repository}
use Rattle.repo_core.specs.declared.entry.Entry.TheVariants.{Revised}
use Rattle.repo_store.specs.Words.{revisions_of}
use Rattle.repo_store.proofs.store.RepoStore.stage_applied.Goals as goal

pub returns-clause-stages : goal.returns-clause-stages
returns-clause-stages g c =
    let x = revisions_of c.args.self.now in
    let entry = Revised (length x) c.args.applied.set c.args.props in
    c.ready.ensures.stages entry (by_repository x entry) c.judge_applied-judged.ensures.judged
