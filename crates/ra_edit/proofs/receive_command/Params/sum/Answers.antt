use Rattle.std.proofs.lemmas.Result.{err_from_is_err_and}
use Rattle.ra_edit.specs.Receiving.{left_of, AValue, ASum}
use Rattle.ra_edit.proofs.NotRead.{as_other, sum_is}
use Rattle.ra_edit.proofs.receive_command.Params.sum.Goals as goal

pub returns-in_err-digits-clause-none : goal.returns-in_err-digits-clause-none
returns-in_err-digits-clause-none c =
    let p = err_from_is_err_and c.from_residual.result c.from_residual.ensures.1 in
    rw (p.1, p.2) (as_other AValue ASum (left_of c.args.self.now) c.in_err-digits.field-0.0 sum_is c.in_err-digits.ensures.none)
