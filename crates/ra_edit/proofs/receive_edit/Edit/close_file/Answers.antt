use Rattle.std.proofs.Common.{◌∙◌, ap, refl, ◌∷◌, []}
use Rattle.ra_edit.proofs.Steps.{file_closed}
use Rattle.std.proofs.lemmas.Result.{err_from_is_err_and}
use Rattle.ra_edit.proofs.OwnRefusals.{file_met, at_once}
use Rattle.delta_editor.specs.declared.call.Call.TheVariants as call
use Rattle.ra_edit.proofs.LeftOpen.{file_gone, own_stays, same_open}
use Rattle.ra_edit.specs.declared.receive_command.Command.TheVariants as command
use Rattle.ra_edit.proofs.receive_edit.Edit.close_file.Goals as goal

pub returns-clause-moved : goal.returns-clause-moved
returns-clause-moved g c =
    let t = c.in_ok-baton.ensures in
    λ at item k h. file_closed _ _ _ _ _ _ _ _ _ _ _ _ _ _ _ k.0 item at t.taken.0 t.none (t.taken.1 ∙ c.as_slice.ensures.value) t.taken.2 t.editor t.stage (ap (λ v. v.items) t.dirs) k.1 k.2 h c.in_ok-close_file.ensures.shown

pub returns-in_err-close_file-clause-own : goal.returns-in_err-close_file-clause-own
returns-in_err-close_file-clause-own g c =
    let p = err_from_is_err_and c.from_residual-in_err-close_file.result c.from_residual-in_err-close_file.ensures.1 in
    let t = c.in_ok-baton.ensures in
    rw (p.1, p.2) (λ at h. file_met _ _ _ _ _ _ _ _ _ _ at (λ q. call.CloseFile q c.args.sum) _ _ t.taken.0 (λ q e. ap (λ r. call.CloseFile r c.args.sum ∷ []) e) h (at_once _ _ _ _ _ _ _ _ t.editor refl c.in_err-close_file.ensures.refused))

pub returns-in_err-baton-clause-still : goal.returns-in_err-baton-clause-still
returns-in_err-baton-clause-still g c =
    let p = err_from_is_err_and c.from_residual.result c.from_residual.ensures.1 in
    let t = c.in_err-baton.ensures in
    rw (p.1, p.2) (own_stays (command.CloseFile c.args.token c.args.sum) _ _ _ t.own (same_open g.E.Editor.dir_path g.E.Editor.file_path _ _ _ _ (ap (λ v. v.items) t.dirs) t.kept))

pub returns-in_err-close_file-clause-still : goal.returns-in_err-close_file-clause-still
returns-in_err-close_file-clause-still g c =
    let p = err_from_is_err_and c.from_residual-in_err-close_file.result c.from_residual-in_err-close_file.ensures.1 in
    let t = c.in_ok-baton.ensures in
    rw (p.1, p.2) (file_gone g.E.Editor.dir_path g.E.Editor.file_path _ _ _ _ _ t.taken.0 t.none (ap (λ v. v.items) t.dirs))
