use Rattle.std.proofs.lemmas.Result.{err_from_is_err_and}
use Rattle.ra_edit.specs.Receiving.{left_of, AList, ABase}
use Rattle.ra_edit.proofs.NotRead.{as_other, base_is}
use Rattle.ra_edit.proofs.receive_command.Params.base.Goals as goal

pub returns-in_err-inner-clause-none : goal.returns-in_err-inner-clause-none
returns-in_err-inner-clause-none c =
    let p = err_from_is_err_and c.from_residual.result c.from_residual.ensures.1 in
    rw (p.1, p.2) (as_other AList ABase (left_of c.args.self.now) c.in_err-inner.field-0.0 base_is c.in_err-inner.ensures.none)
