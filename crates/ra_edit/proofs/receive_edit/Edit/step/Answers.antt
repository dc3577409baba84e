use Rattle.std.proofs.Common.{◌∙◌, sym, subst, refl}
use Rattle.std.proofs.lemmas.Result.{err_from_is_err_and}
use Rattle.ra_edit.specs.Refusals.{RefusedFor}
use Rattle.ra_edit.proofs.Refusing.{announced_refused, not_finish, refusal_due}
use Rattle.ra_edit.proofs.LeftOpen.{own_stays}
use Rattle.ra_edit.specs.declared.command_fault.CommandFault.TheVariants as fault
use Rattle.ra_edit.proofs.receive_edit.Edit.step.Goals as goal

pub returns-then-is_announced-clause-refused : goal.returns-then-is_announced-clause-refused
returns-then-is_announced-clause-refused g c =
    λ at h. announced_refused _ _ _ _ _ at c.args.command (sym c.is_announced.ensures ∙ c.if-is_announced.true) c.in_default.not-Finish h

pub returns-in_err-perform-clause-refused : goal.returns-in_err-perform-clause-refused
returns-in_err-perform-clause-refused g c =
    let p = err_from_is_err_and c.from_residual.result c.from_residual.ensures.1 in
    let f = c.in_err-perform.field-0.0 in
    rw (p.1, p.2) (λ at h. subst (λ x. RefusedFor f x) (sym (refusal_due _ _ _ _ _ at c.args.command (sym c.is_announced.ensures ∙ c.if-is_announced.false) h)) (c.in_err-perform.ensures.refused (not_finish c.args.command c.in_default.not-Finish) at h))

pub returns-then-is_announced-clause-still : goal.returns-then-is_announced-clause-still
returns-then-is_announced-clause-still g c = own_stays c.args.command fault.BadShape _ _ tt refl
