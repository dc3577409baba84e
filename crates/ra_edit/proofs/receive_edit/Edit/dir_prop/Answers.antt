use Rattle.std.proofs.Common.{ap, refl}
use Rattle.std.specs.Prelude.{reverse, slice_set}
use Rattle.std.specs.Option.{option_map}
use Rattle.ra_edit.specs.Edits.{Dir, named}
use Rattle.ra_edit.proofs.Steps.{dir_at, open_at, prop_in_dir}
use Rattle.std.proofs.lemmas.Result.{err_from_is_err_and}
use Rattle.ra_edit.proofs.OwnRefusals.{met, open_in}
use Rattle.delta_editor.specs.declared.call.Call.TheVariants as call
use Rattle.ra_edit.proofs.LeftOpen.{set_back}
use Rattle.ra_edit.proofs.receive_edit.Edit.dir_prop.Goals as goal

pub returns-clause-moved : goal.returns-clause-moved
returns-clause-moved g c =
    let old = c.args.self.now in
    let dp = g.E.Editor.dir_path in
    let r = c.index_mut-dir.result.now in
    let e = record r { baton = c.dir_prop.new.dir } in
    let t = c.args.token.items in
    let k = dir_at dp old.dirs.items c.in_ok-at.at r e c.as_slice.result.now t c.in_ok-at.ensures.found c.as_slice.ensures.value c.index_mut-dir.ensures.value (ap (λ x. named r.token.items x Dir) c.in_ok-dir_prop.ensures.baton) in
    λ at item f h. prop_in_dir dp g.E.Editor.file_path g.E.Editor.shows old.editor c.dir_prop.new.self old.stage old.dirs.items (slice_set old.dirs.items c.in_ok-at.at e) old.file t (dp r.baton) c.args.name (option_map (λ s. s.items) c.args.value) (option_map (λ v. v.now) c.slice_of.result) f.0 f.1 item at (ap reverse k.3) (open_at _ k.0 k.1 t (dp r.baton) k.2) c.slice_of.ensures f.2 f.3 f.4 h c.in_ok-dir_prop.ensures.shown

pub returns-in_err-dir_prop-clause-own : goal.returns-in_err-dir_prop-clause-own
returns-in_err-dir_prop-clause-own g c =
    let p = err_from_is_err_and c.from_residual-in_err-dir_prop.result c.from_residual-in_err-dir_prop.ensures.1 in
    let old = c.args.self.now in
    let dp = g.E.Editor.dir_path in
    let r = c.index_mut-dir.result.now in
    let t = c.args.token.items in
    let q = dir_at dp old.dirs.items c.in_ok-at.at r r c.as_slice.result.now t c.in_ok-at.ensures.found c.as_slice.ensures.value c.index_mut-dir.ensures.value refl in
    let k = call.DirProp (dp r.baton) c.args.name in
    rw (p.1, p.2) (λ at h. met g.E.Editor.shows g.E.Editor.began g.E.Editor.refuses old.editor old.editor at (k (option_map (λ s. s.items) c.args.value)) (k (option_map (λ v. v.now) c.slice_of.result)) _ c.in_err-dir_prop.field-0.0 refl (ap k c.slice_of.ensures) (dp r.baton, open_in dp g.E.Editor.file_path old.stage old.dirs.items old.file at t (dp r.baton) h (open_at _ q.0 q.1 t (dp r.baton) q.2), refl) c.in_err-dir_prop.ensures.refused)

pub returns-in_err-dir_prop-clause-still : goal.returns-in_err-dir_prop-clause-still
returns-in_err-dir_prop-clause-still g c =
    let p = err_from_is_err_and c.from_residual-in_err-dir_prop.result c.from_residual-in_err-dir_prop.ensures.1 in
    let old = c.args.self.now in
    let dp = g.E.Editor.dir_path in
    let r = c.index_mut-dir.result.now in
    let e = record r { baton = c.dir_prop.new.dir } in
    let k = dir_at dp old.dirs.items c.in_ok-at.at r e c.as_slice.result.now c.args.token.items c.in_ok-at.ensures.found c.as_slice.ensures.value c.index_mut-dir.ensures.value (ap (λ x. named r.token.items x Dir) c.in_err-dir_prop.ensures.baton) in
    rw p.1 (set_back dp g.E.Editor.file_path old.dirs.items (slice_set old.dirs.items c.in_ok-at.at e) old.file k.3)
