use Rattle.std.proofs.Common.{subst, ◌∙◌}
use Rattle.std.specs.FinMap as finite
use Rattle.std.proofs.lemmas.Result.{err_from_is_err_and}
use Rattle.repo_core.specs.Refusals.{limit_fault}
use Rattle.sync_core.specs.Dues.{IsDue}
use Rattle.sync_core.proofs.Entries.{zeroth_due}
use Rattle.sync_core.proofs.entry.put_entry.Goals as goal

pub returns-in_err-props-clause-refused : goal.returns-in_err-props-clause-refused
returns-in_err-props-clause-refused c =
    let p = err_from_is_err_and c.from_residual-in_err-props.result c.from_residual-in_err-props.ensures.1 in
    rw (p.1, p.2)
    (zeroth_due c.args.repo.now.revisions _ c.in_err-props.field-0.0 c.own_of.ensures.begun
    (subst (λ m. IsDue c.in_err-props.field-0.0 (limit_fault (finite.insert m c.args.name.now c.args.value))) (c.in_ok-own.ensures ∙ c.own_of.ensures.own) c.in_err-props.ensures.refused))
