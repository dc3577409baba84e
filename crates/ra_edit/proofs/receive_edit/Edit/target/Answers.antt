use Rattle.ra_edit.proofs.Steps.{target_moves}
use Rattle.std.proofs.lemmas.Result.{err_from_is_err_and}
use Rattle.ra_edit.proofs.OwnRefusals.{met}
use Rattle.std.proofs.Common.{refl}
use Rattle.ra_edit.proofs.receive_edit.Edit.target.Goals as goal

pub returns-clause-moved : goal.returns-clause-moved
returns-clause-moved g c =
    λ at item f h. target_moves _ _ _ _ _ _ _ _ _ item at c.in-Begun.is f.0 f.1 h c.in_ok-target.ensures.shown

pub returns-in_err-target-clause-own : goal.returns-in_err-target-clause-own
returns-in_err-target-clause-own g c =
    let p = err_from_is_err_and c.from_residual.result c.from_residual.ensures.1 in
    rw (p.1, p.2) (λ at h. met _ _ _ _ _ at _ _ _ _ refl refl refl c.in_err-target.ensures.refused)
