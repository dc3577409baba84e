use Rattle.std.proofs.Common.{◌∙◌, ap, length}
use Rattle.repo_core.specs.Dates.{dated}
use Rattle.repo_core.specs.Repository.{Repository, head_of}
use Rattle.repo_core.specs.Refusals.{commit_fault}
use Rattle.repo_core.specs.declared.entry.Entry.TheVariants.{Revised}
use Rattle.repo_store.specs.Words.{revisions_of}
use Rattle.store_engines.proofs.Serving.{commits_err, commits_ok}
use Rattle.store_engines.proofs.commits.commit.Goals as goal

pub returns-in-Ok : goal.returns-in-Ok
returns-in-Ok g c =
    let x = revisions_of c.args.store.now in
    let entry = Revised (length x) c.args.set (dated c.args.props c.args.moment) in
    let base = c.head-head.ensures.head ∙ ap (λ (r : Repository). head_of r.revisions) c.repo.ensures.value in
    commits_ok c.args.store.now c.commit.new.self entry _ (ap (λ b. commit_fault x b entry) base) (λ d f h l. g.met.D.Disk.only_now d f h l) c.in-Ok.ensures.change c.in-Ok.ensures.version

pub returns-in-Err : goal.returns-in-Err
returns-in-Err g c =
    let x = revisions_of c.args.store.now in
    let entry = Revised (length x) c.args.set (dated c.args.props c.args.moment) in
    let base = c.head-head.ensures.head ∙ ap (λ (r : Repository). head_of r.revisions) c.repo.ensures.value in
    commits_err c.args.store.now c.commit.new.self entry _ c.in-Err.fault c.store_refusal.result (ap (λ b. commit_fault x b entry) base) c.store_refusal.ensures.value c.store_refusal.ensures.no_peer c.in-Err.ensures.change c.in-Err.ensures.version
