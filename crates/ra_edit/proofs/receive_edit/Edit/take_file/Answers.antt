use Rattle.std.proofs.lemmas.Result.{err_from_is_err_and}
use Rattle.ra_edit.proofs.Refusing.{no_file, in_open, matched}
use Rattle.ra_edit.proofs.receive_edit.Edit.take_file.Goals as goal

pub returns-in_default-clause-refused : goal.returns-in_default-clause-refused
returns-in_default-clause-refused g c =
    λ at h. no_file _ _ _ _ _ at _ _ c.in_default.is h

pub returns-in_err-check_sum-clause-refused : goal.returns-in_err-check_sum-clause-refused
returns-in_err-check_sum-clause-refused g c =
    let p = err_from_is_err_and c.from_residual.result c.from_residual.ensures.1 in
    rw (p.1, p.2) (λ at h. in_open _ _ _ _ _ _ at _ _ _ c.in-Some.is (λ held k. matched _ _ _ _ _ _ c.if-not-is_same.false c.is_same.ensures.same c.as_slice.ensures.value (c.in_err-check_sum.ensures.refused held k)) h)
