use Rattle.std.proofs.Common.{◌∙◌, ap, refl, ◌∷◌, []}
use Rattle.delta_editor.specs.declared.call.Call.TheVariants as call
use Rattle.ra_edit.specs.Edits.{Dir, named}
use Rattle.ra_edit.proofs.Steps.{dir_opened, says_open_dir}
use Rattle.std.proofs.lemmas.Result.{err_from_is_err_and}
use Rattle.ra_edit.proofs.OwnRefusals.{dir_met}
use Rattle.ra_edit.proofs.LeftOpen.{same_open, put_back}
use Rattle.ra_edit.proofs.receive_edit.Edit.open_dir.Goals as goal

pub returns-clause-moved : goal.returns-clause-moved
returns-clause-moved g c =
    let d = c.in_ok-dir.dir in
    let t = c.in_ok-dir.ensures in
    let dp = g.E.Editor.dir_path in
    λ at item f h. dir_opened dp _ _ _ _ _ _ _ _ _ _ _ d (record d { baton = c.open_dir-done.new.up }) (record { token = c.args.token; baton = c.in_ok-baton.baton }) _ _ _ _ item at
    t.taken.0 t.taken.2 c.push_reserved.ensures.items c.push_reserved-2.ensures.items (ap (λ x. named d.token.items x Dir) c.in_ok-baton.ensures.up) t.editor t.stage t.file refl
    (rw c.as_slice-2.ensures.value at t.free)
    (says_open_dir dp d (record { token = c.args.token; baton = c.in_ok-baton.baton }) c.args.path c.args.base c.args.up.items f.0 f.1 item f.2 f.3 f.4 (t.taken.1 ∙ c.as_slice.ensures.value) c.in_ok-baton.ensures.baton) h c.in_ok-baton.ensures.shown

pub returns-in_err-baton-clause-own : goal.returns-in_err-baton-clause-own
returns-in_err-baton-clause-own g c =
    let p = err_from_is_err_and c.from_residual-in_err-baton.result c.from_residual-in_err-baton.ensures.1 in
    let t = c.in_ok-dir.ensures in
    rw (p.1, p.2) (λ at h. dir_met _ _ _ _ _ _ _ _ _ _ _ _ at (λ q. call.OpenDir q c.args.path c.args.base) _ _ _ t.taken.0 t.taken.2 t.editor refl (λ q e. ap (λ r. call.OpenDir r c.args.path c.args.base ∷ []) e) h c.in_err-baton.ensures.refused)

pub returns-in_err-dir-clause-still : goal.returns-in_err-dir-clause-still
returns-in_err-dir-clause-still g c =
    let p = err_from_is_err_and c.from_residual.result c.from_residual.ensures.1 in
    rw p.1 (same_open g.E.Editor.dir_path g.E.Editor.file_path _ _ _ _ c.in_err-dir.ensures.kept c.in_err-dir.ensures.file)

pub returns-in_err-baton-clause-still : goal.returns-in_err-baton-clause-still
returns-in_err-baton-clause-still g c =
    let p = err_from_is_err_and c.from_residual-in_err-baton.result c.from_residual-in_err-baton.ensures.1 in
    let t = c.in_ok-dir.ensures in
    rw p.1 (put_back g.E.Editor.dir_path g.E.Editor.file_path _ _ _ _ _ _ _ t.taken.0 c.push_reserved.ensures.items c.in_err-baton.ensures.up t.file)
