use Rattle.std.proofs.Common.{◌≡◌, Some, rules}
use Rattle.repo_core.specs.Repository.{tree_at}
use Rattle.repo_store.specs.Words.{revisions_of}
use Rattle.sync_job.proofs.Worlds.{one_more}
use Rattle.sync_job.proofs.alone.AloneMirrorMirrorPort.tree.Goals as goal

pub returns-in_ok-share-in-Some-clause-next : goal.returns-in_ok-share-in-Some-clause-next
returns-in_ok-share-in-Some-clause-next g c =
    let there : tree_at (revisions_of c.args.self.now.store) c.args.number ≡ Some c.in_ok-share-in-Some.field-0 = search rules in
    λ trees f e. one_more (revisions_of c.args.self.now.store) trees c.args.number c.in_ok-share-in-Some.field-0 e there f
