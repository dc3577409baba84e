use Rattle.std.proofs.Common.{◌∙◌, ◌∷◌, ◌++◌, [], ap, sym, refl}
use Rattle.ra_edit.proofs.Steps.{root_moves}
use Rattle.std.proofs.lemmas.Result.{err_from_is_err_and}
use Rattle.ra_edit.proofs.OwnRefusals.{met}
use Rattle.ra_edit.proofs.LeftOpen.{same_open}
use Rattle.ra_edit.proofs.receive_edit.Edit.open_root.Goals as goal

pub returns-clause-moved : goal.returns-clause-moved
returns-clause-moved g c =
    λ at item f h. root_moves _ _ _ _ _ _ _ _ (record { token = c.args.token; baton = c.in_ok-baton.baton }) _ _ f.0 item at (sym c.is_unopened.ensures ∙ c.if-not-is_unopened.false) (c.push_reserved.ensures.items ∙ ap (λ l. l ++ (record { token = c.args.token; baton = c.in_ok-baton.baton }) ∷ []) c.in_ok-reserve.ensures.items) c.in_ok-baton.ensures.baton f.1 f.2 h c.in_ok-baton.ensures.shown

pub returns-in_err-baton-clause-own : goal.returns-in_err-baton-clause-own
returns-in_err-baton-clause-own g c =
    let p = err_from_is_err_and c.from_residual-in_err-baton.result c.from_residual-in_err-baton.ensures.1 in
    rw (p.1, p.2) (λ at h. met _ _ _ _ _ at _ _ _ _ refl refl refl c.in_err-baton.ensures.refused)

pub returns-in_err-baton-clause-still : goal.returns-in_err-baton-clause-still
returns-in_err-baton-clause-still g c =
    let p = err_from_is_err_and c.from_residual-in_err-baton.result c.from_residual-in_err-baton.ensures.1 in
    rw p.1 (same_open g.E.Editor.dir_path g.E.Editor.file_path _ _ _ _ c.in_ok-reserve.ensures.items refl)
