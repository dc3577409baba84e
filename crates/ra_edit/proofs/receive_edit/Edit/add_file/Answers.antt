use Rattle.std.proofs.Common.{◌∙◌, ◌∷◌, [], ap, refl}
use Rattle.delta_editor.specs.declared.call.Call.TheVariants as call
use Rattle.ra_edit.specs.Edits.{Dir, named}
use Rattle.ra_edit.specs.declared.receive_edit.Given.TheVariants as given
use Rattle.ra_edit.proofs.Steps.{file_opened, says_add_file}
use Rattle.std.proofs.lemmas.Result.{err_from_is_err_and}
use Rattle.ra_edit.proofs.OwnRefusals.{dir_met}
use Rattle.ra_edit.proofs.LeftOpen.{same_open, put_back}
use Rattle.ra_edit.proofs.receive_edit.Edit.add_file.Goals as goal

pub returns-clause-moved : goal.returns-clause-moved
returns-clause-moved g c =
    let d = c.in_ok-dir.dir in
    let t = c.in_ok-dir.ensures in
    let dp = g.E.Editor.dir_path in
    let fp = g.E.Editor.file_path in
    λ at item f h. file_opened dp fp _ _ _ _ _ _ _ _ _ d (record d { baton = c.add_file-done.new.up }) _ _ (record { token = c.args.token; baton = c.in_ok-baton.baton; given = given.Nothing }) _ _ item at
    t.taken.0 t.taken.2 (ap (λ v. v.items) c.hold.ensures.dirs ∙ c.push_reserved.ensures.items) (ap (λ x. named d.token.items x Dir) c.in_ok-baton.ensures.up) t.editor (c.hold.ensures.stage ∙ t.stage) c.hold.ensures.file refl (ap (λ x. call.AddFile (dp d.baton) c.args.path x) c.as_ref.ensures.value)
    (rw c.as_slice-2.ensures.value at t.free)
    (says_add_file dp fp d (record { token = c.args.token; baton = c.in_ok-baton.baton; given = given.Nothing }) c.args.path c.args.from c.args.up.items f.0 f.1 item f.2 f.3 f.4 (t.taken.1 ∙ c.as_slice.ensures.value) c.in_ok-baton.ensures.baton) h
    (rw c.hold.ensures.editor c.in_ok-baton.ensures.shown)

pub returns-in_err-baton-clause-own : goal.returns-in_err-baton-clause-own
returns-in_err-baton-clause-own g c =
    let p = err_from_is_err_and c.from_residual-in_err-baton.result c.from_residual-in_err-baton.ensures.1 in
    let t = c.in_ok-dir.ensures in
    rw (p.1, p.2) (λ at h. dir_met _ _ _ _ _ _ _ _ _ _ _ _ at (λ q. call.AddFile q c.args.path c.args.from) _ _ _ t.taken.0 t.taken.2 t.editor (ap (λ x. call.AddFile (g.E.Editor.dir_path c.in_ok-dir.dir.baton) c.args.path x) c.as_ref.ensures.value) (λ q e. ap (λ r. call.AddFile r c.args.path c.args.from ∷ []) e) h c.in_err-baton.ensures.refused)

pub returns-in_err-dir-clause-still : goal.returns-in_err-dir-clause-still
returns-in_err-dir-clause-still g c =
    let p = err_from_is_err_and c.from_residual.result c.from_residual.ensures.1 in
    rw p.1 (same_open g.E.Editor.dir_path g.E.Editor.file_path _ _ _ _ c.in_err-dir.ensures.kept c.in_err-dir.ensures.file)

pub returns-in_err-baton-clause-still : goal.returns-in_err-baton-clause-still
returns-in_err-baton-clause-still g c =
    let p = err_from_is_err_and c.from_residual-in_err-baton.result c.from_residual-in_err-baton.ensures.1 in
    let t = c.in_ok-dir.ensures in
    rw p.1 (put_back g.E.Editor.dir_path g.E.Editor.file_path _ _ _ _ _ _ _ t.taken.0 c.push_reserved.ensures.items c.in_err-baton.ensures.up t.file)
