use Rattle.std.proofs.Common.{◌∙◌, ap, sym, refl}
use Rattle.delta_editor.specs.declared.call.Call.TheVariants as call
use Rattle.ra_edit.proofs.Steps.{says_file_prop, says_shown}
use Rattle.std.proofs.lemmas.Result.{err_from_is_err_and}
use Rattle.ra_edit.proofs.OwnRefusals.{at_once}
use Rattle.ra_edit.proofs.receive_edit.give_prop.Goals as goal

pub returns-clause-moved : goal.returns-clause-moved
returns-clause-moved g c =
    let f = c.args.file.now in
    λ item k. record {
      calls = _;
      token = refl;
      path = c.in_ok-file_prop.ensures.baton;
      says = says_file_prop g.E.Editor.file_path f (record f { baton = c.file_prop.new.file }) _ _ _ k.0 k.1 item refl (sym c.as_slice.ensures.value ∙ c.is_same.ensures.is c.if-not-is_same.false ∙ c.as_slice-2.ensures.value) k.2 k.3 k.4;
      shown = says_shown g.E.Editor.shows c.args.editor.now _ c.file_prop.new.self _ _ refl (ap (call.FileProp (g.E.Editor.file_path f.baton) c.args.name) c.slice_of.ensures) c.in_ok-file_prop.ensures.shown;
    }

pub returns-in_err-file_prop-clause-own : goal.returns-in_err-file_prop-clause-own
returns-in_err-file_prop-clause-own g c =
    let p = err_from_is_err_and c.from_residual.result c.from_residual.ensures.1 in
    rw (p.1, p.2) (at_once _ _ _ _ _ _ _ _ refl (ap (call.FileProp (g.E.Editor.file_path c.args.file.now.baton) c.args.name) c.slice_of.ensures) c.in_err-file_prop.ensures.refused)
