use Rattle.ra_edit.proofs.Steps.{root_shown}
use Rattle.std.proofs.lemmas.Result.{err_from_is_err_and}
use Rattle.ra_edit.proofs.OwnRefusals.{at_once, one_more, one_later}
use Rattle.delta_editor.specs.declared.call.Call.TheVariants as call
use Rattle.std.proofs.Common.{◌∷◌, [], None, ap, refl}
use Rattle.ra_edit.proofs.receive_edit.show_root.Goals as goal

pub returns-clause-shown : goal.returns-clause-shown
returns-clause-shown g c = root_shown g.E.Editor.shows c.args.editor.now c.open_root.new.self c.close_dir.new.self (g.E.Editor.dir_path c.in_ok-root.root) c.in_ok-root.ensures.baton c.in_ok-root.ensures.shown c.in_ok-close_dir.ensures.shown

pub returns-in_err-root-clause-refused : goal.returns-in_err-root-clause-refused
returns-in_err-root-clause-refused g c =
    let p = err_from_is_err_and c.from_residual.result c.from_residual.ensures.1 in
    rw (p.1, p.2) (one_more _ _ _ _ _ _ (call.CloseDir [] ∷ []) _ refl (at_once _ _ _ _ _ _ (call.OpenRoot None) _ refl refl c.in_err-root.ensures.refused))

pub returns-in_err-close_dir-clause-refused : goal.returns-in_err-close_dir-clause-refused
returns-in_err-close_dir-clause-refused g c =
    let p = err_from_is_err_and c.from_residual-in_err-close_dir.result c.from_residual-in_err-close_dir.ensures.1 in
    let o = c.in_ok-root.ensures in
    rw (p.1, p.2) (one_later _ _ _ _ _ (call.OpenRoot None ∷ []) (call.CloseDir []) _ [] _ o.shown o.began (ap call.CloseDir o.baton) c.in_err-close_dir.ensures.refused)
