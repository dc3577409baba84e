use Rattle.std.proofs.Common.{length, Ok, Err}
use Rattle.std.proofs.lemmas.Result.{err_from_is_err_and}
use Rattle.repo_core.specs.Refusals.{by_repository}
use Rattle.repo_core.specs.declared.entry.Entry.TheVariants.{Revised}
use Rattle.gate_log.specs.declared.log.Receipt.{Receipt}
use Rattle.repo_store.specs.declared.committed.Committed.{Committed}
use Rattle.repo_store.specs.Words.{revisions_of}
use Rattle.repo_store.proofs.Changing.{changes_as, not_staged}
use Rattle.repo_store.proofs.store.RepoStore.commit_applied.Goals as goal

pub returns-in_err-staged-clause-change : goal.returns-in_err-staged-clause-change
returns-in_err-staged-clause-change g c =
    let p = err_from_is_err_and c.from_residual.result c.from_residual.ensures.1 in
    let x = revisions_of c.args.self.now in
    let entry = Revised (length x) c.args.applied.set c.args.props in
    rw (p.1, p.2)
    (not_staged Committed entry (by_repository x entry) c.args.self.now c.stage_applied.new.self c.in_err-staged.field-0.0 c.in_err-staged.ensures.stages c.args.self.now.kept c.args.self.now.doubted.1 (λ h image left. g.met.D.Disk.only_now _ image h left))

pub returns-in_err-receipt-clause-change : goal.returns-in_err-receipt-clause-change
returns-in_err-receipt-clause-change g c =
    let p = err_from_is_err_and c.from_residual-in_err-receipt.result c.from_residual-in_err-receipt.ensures.1 in
    let x = revisions_of c.args.self.now in
    let entry = Revised (length x) c.args.applied.set c.args.props in
    rw (p.1, p.2)
    (changes_as Committed entry (by_repository x entry) c.args.self.now c.stage_applied.new.self c.install.new.self c.in_ok-staged.staged (Err c.in_err-receipt.field-0.0) c.in_ok-staged.ensures.stages c.in_err-receipt.ensures.installed)

pub returns-clause-change : goal.returns-clause-change
returns-clause-change g c =
    let x = revisions_of c.args.self.now in
    let entry = Revised (length x) c.args.applied.set c.args.props in
    changes_as Receipt entry (by_repository x entry) c.args.self.now c.stage_applied.new.self c.install.new.self c.in_ok-staged.staged (Ok c.in_ok-receipt.receipt) c.in_ok-staged.ensures.stages c.in_ok-receipt.ensures.installed
