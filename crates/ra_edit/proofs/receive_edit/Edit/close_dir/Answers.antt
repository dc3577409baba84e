use Rattle.std.proofs.Common.{◌∙◌, refl, ap, ◌∷◌, []}
use Rattle.ra_edit.proofs.Steps.{dir_closed}
use Rattle.std.proofs.lemmas.Result.{err_from_is_err_and}
use Rattle.ra_edit.proofs.OwnRefusals.{dir_met}
use Rattle.delta_editor.specs.declared.call.Call.TheVariants as call
use Rattle.ra_edit.proofs.LeftOpen.{dir_gone, own_stays, same_open}
use Rattle.ra_edit.specs.declared.receive_command.Command.TheVariants as command
use Rattle.ra_edit.proofs.receive_edit.Edit.close_dir.Goals as goal

pub returns-clause-moved : goal.returns-clause-moved
returns-clause-moved g c =
    let old = c.args.self.now in
    let mid = c.take_innermost.new.self in
    let t = c.in_ok-baton.ensures in
    λ at item f h. dir_closed g.E.Editor.dir_path g.E.Editor.file_path g.E.Editor.shows old.editor mid.editor c.close_dir.new.self old.stage mid.stage old.dirs.items mid.dirs.items c.in_ok-baton.field-0 old.file mid.file item at c.args.token.items t.taken.0 (t.taken.1 ∙ c.as_slice.ensures.value) t.taken.2 t.editor t.stage t.file f h c.in_ok-close_dir.ensures.shown

pub returns-in_err-close_dir-clause-own : goal.returns-in_err-close_dir-clause-own
returns-in_err-close_dir-clause-own g c =
    let p = err_from_is_err_and c.from_residual-in_err-close_dir.result c.from_residual-in_err-close_dir.ensures.1 in
    let t = c.in_ok-baton.ensures in
    rw (p.1, p.2) (λ at h. dir_met _ _ _ _ _ _ _ _ _ _ _ _ at (λ q. call.CloseDir q) _ _ _ t.taken.0 t.taken.2 t.editor refl (λ q e. ap (λ r. call.CloseDir r ∷ []) e) h c.in_err-close_dir.ensures.refused)

pub returns-in_err-baton-clause-still : goal.returns-in_err-baton-clause-still
returns-in_err-baton-clause-still g c =
    let p = err_from_is_err_and c.from_residual.result c.from_residual.ensures.1 in
    let t = c.in_err-baton.ensures in
    rw (p.1, p.2) (own_stays (command.CloseDir c.args.token) _ _ _ t.own (same_open g.E.Editor.dir_path g.E.Editor.file_path _ _ _ _ t.kept t.file))

pub returns-in_err-close_dir-clause-still : goal.returns-in_err-close_dir-clause-still
returns-in_err-close_dir-clause-still g c =
    let p = err_from_is_err_and c.from_residual-in_err-close_dir.result c.from_residual-in_err-close_dir.ensures.1 in
    let t = c.in_ok-baton.ensures in
    rw (p.1, p.2) (dir_gone g.E.Editor.dir_path g.E.Editor.file_path _ _ _ _ _ t.taken.0 t.taken.2 t.file)
