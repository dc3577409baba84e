use Rattle.std.proofs.Common.{length}
use Rattle.repo_core.specs.Dates.{dated}
use Rattle.repo_core.specs.Refusals.{commit_fault}
use Rattle.repo_core.specs.declared.entry.Entry.TheVariants.{Revised}
use Rattle.repo_store.specs.Words.{revisions_of}
use Rattle.repo_store.proofs.Changing.{judged_of}
use Rattle.repo_store.proofs.store.RepoStore.stage_commit.Goals as goal

pub returns-clause-stages : goal.returns-clause-stages
returns-clause-stages g c =
    let x = revisions_of c.args.self.now in
    let entry = Revised (length x) c.args.set (dated c.args.props c.args.moment) in
    let e = c.stage_commit-judged.ensures in
    c.ready.ensures.stages entry (commit_fault x c.args.base entry) (judged_of entry (commit_fault x c.args.base entry) c.stage_commit-judged.result e.entry e.taken e.refused)
