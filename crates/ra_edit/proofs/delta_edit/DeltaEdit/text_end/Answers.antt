use Rattle.std.proofs.Common.{◌∙◌, false, sym, ap, subst, refl}
use Rattle.std.proofs.lemmas.Result.{err_from_is_err_and}
use Rattle.svndiff.specs.DeltaReading.{is_failed}
use Rattle.ra_edit.specs.DeltaEdits.{coming_in, DoneBy, OfCommand, OfEnd}
use Rattle.ra_edit.specs.Edit.{IsInText, StandsAt}
use Rattle.ra_edit.specs.Edits.{At}
use Rattle.ra_edit.specs.Refusals.{IfOwn, RefusedFor, at_text, behind_end, in_file, open_of}
use Rattle.ra_edit.specs.declared.receive_command.Command.TheVariants as command
use Rattle.ra_edit.proofs.DeltaDoes.{unchanged, none_open, end_done, end_not, end_own}
use Rattle.ra_edit.proofs.delta_edit.DeltaEdit.text_end.Goals as goal

pub returns-in_err-check_text-clause-refused : goal.returns-in_err-check_text-clause-refused
returns-in_err-check_text-clause-refused g c =
    let p = err_from_is_err_and c.from_residual.result c.from_residual.ensures.1 in
    let e = c.in_err-check_text.ensures in
    let f = c.in_err-check_text.field-0.0 in
    rw (p.1, p.2) (λ sum. unchanged _ _ _ _ _ _ _ _ _ (command.TextEnd c.args.token) _ _ refl (λ at here. OfCommand (subst (λ t. RefusedFor f (behind_end at (in_file t (open_of at) at_text))) c.as_slice.ensures.value (e.refused at here.0))) e.own)

pub returns-in_default-clause-refused : goal.returns-in_default-clause-refused
returns-in_default-clause-refused g c =
    λ sum. unchanged _ _ _ _ _ _ _ _ _ (command.TextEnd c.args.token) _ _ refl (λ at here. absurd (none_open c.as_slice.result.now at _ (c.in_ok-check_text.ensures.in_text at here.0) here.1 (ap coming_in (sym c.take.ensures.value ∙ c.in_default.is)))) tt

pub returns-in_err-finish-clause-refused : goal.returns-in_err-finish-clause-refused
returns-in_err-finish-clause-refused g c =
    let p = err_from_is_err_and c.from_residual-in_err-finish.result c.from_residual-in_err-finish.ensures.1 in
    let d = c.in-Some.coming in
    let e = c.in_err-finish.ensures in
    rw (p.1, p.2) (λ sum. unchanged _ _ _ _ _ _ _ _ _ (command.TextEnd c.args.token) _ _ refl (λ at here. OfEnd c.args.token d.base d.reader.delta refl (ap coming_in (sym c.take.ensures.value ∙ c.in-Some.is)) e.within e.refused) (subst (IfOwn (λ x. ⊥)) (sym e.refused) (end_own (is_failed d.reader.delta.window))))

pub returns-in_err-text_end-clause-refused : goal.returns-in_err-text_end-clause-refused
returns-in_err-text_end-clause-refused g c =
    let p = err_from_is_err_and c.from_residual-in_err-text_end.result c.from_residual-in_err-text_end.ensures.1 in
    let e = c.in_err-text_end.ensures in
    let inside : (at : At) → StandsAt g.E.Editor.dir_path g.E.Editor.file_path c.args.self.now.edit at → IsInText c.args.token.items at = λ at h. subst (λ t. IsInText t at) c.as_slice.ensures.value (c.in_ok-check_text.ensures.in_text at h) in
    rw (p.1, p.2) (λ sum. end_not _ _ _ _ _ _ _ _ _ c.args.token _ _ inside e.refused e.own e.still)

pub returns-clause-moved : goal.returns-clause-moved
returns-clause-moved g c =
    let T = g.E.TextEditor in
    let E = g.E.Editor in
    let old = c.args.self.now.edit in
    let o = coming_in c.args.self.now.coming in
    let d = c.in-Some.coming in
    λ sum. subst (λ x. DoneBy (T.has_text (T.texts old.editor)) E.shows E.dir_path E.file_path old c.text_end.new.self o (coming_in x) (command.TextEnd c.args.token) sum false) (sym c.take.ensures.after)
    (end_done (T.has_text (T.texts old.editor)) E.dir_path E.file_path E.shows old c.text_end.new.self o c.args.token d.base d.reader.delta sum (ap coming_in (sym c.take.ensures.value ∙ c.in-Some.is)) c.in_ok-finish.ensures.ended c.in_ok-text_end.ensures.moved)
