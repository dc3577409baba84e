use Rattle.std.proofs.lemmas.Result.{err_from_is_err_and}
use Rattle.std.specs.Option.{option_copied}
use Rattle.repo_core.specs.Repository.{props_at}
use Rattle.repo_core.specs.Refusals.{change_fault, with_value}
use Rattle.repo_core.specs.declared.entry.Entry.TheVariants.{Mapped}
use Rattle.gate_log.specs.declared.log.Receipt.{Receipt}
use Rattle.repo_store.specs.Words.{revisions_of}
use Rattle.repo_store.proofs.Changing.{changes_as, not_staged}
use Rattle.repo_store.proofs.store.RepoStore.change_prop.Goals as goal

pub returns-in_err-staged-clause-change : goal.returns-in_err-staged-clause-change
returns-in_err-staged-clause-change g c =
    let p = err_from_is_err_and c.from_residual.result c.from_residual.ensures.1 in
    let x = revisions_of c.args.self.now in
    let value = option_copied c.args.value in
    let entry = Mapped c.args.number (with_value (props_at x c.args.number) c.args.name.now value) in
    let fault = change_fault x c.args.number c.args.name.now value c.args.expected.now in
    rw (p.1, p.2)
    (not_staged Receipt entry fault c.args.self.now c.stage_change_prop.new.self c.in_err-staged.field-0.0 c.in_err-staged.ensures.stages c.args.self.now.kept c.args.self.now.doubted.1 (λ h image left. g.met.D.Disk.only_now _ image h left))

pub returns-clause-change : goal.returns-clause-change
returns-clause-change g c =
    let x = revisions_of c.args.self.now in
    let value = option_copied c.args.value in
    let entry = Mapped c.args.number (with_value (props_at x c.args.number) c.args.name.now value) in
    let fault = change_fault x c.args.number c.args.name.now value c.args.expected.now in
    changes_as Receipt entry fault c.args.self.now c.stage_change_prop.new.self c.install.new.self c.in_ok-staged.staged c.install.result c.in_ok-staged.ensures.stages c.install.ensures.installed
