use Rattle.std.proofs.Common.{length}
use Rattle.repo_core.specs.declared.entry.Entry.TheVariants.{Revised}
use Rattle.repo_store.specs.Words.{revisions_of}
use Rattle.store_engines.proofs.Loading.{due_at_head}
use Rattle.store_engines.proofs.Serving.{commits_err, commits_ok}
use Rattle.store_engines.proofs.commits.commit_applied.Goals as goal

pub returns-in-Ok : goal.returns-in-Ok
returns-in-Ok g c =
    let x = revisions_of c.args.store.now in
    commits_ok c.args.store.now c.commit_applied.new.self (Revised (length x) c.args.applied.set c.args.props) _ (due_at_head x c.args.applied.set c.args.props) (λ d f h l. g.met.D.Disk.only_now d f h l) c.in-Ok.ensures.change c.in-Ok.ensures.version

pub returns-in-Err : goal.returns-in-Err
returns-in-Err g c =
    let x = revisions_of c.args.store.now in
    commits_err c.args.store.now c.commit_applied.new.self (Revised (length x) c.args.applied.set c.args.props) _ c.in-Err.fault c.store_refusal.result (due_at_head x c.args.applied.set c.args.props) c.store_refusal.ensures.value c.store_refusal.ensures.no_peer c.in-Err.ensures.change c.in-Err.ensures.version
