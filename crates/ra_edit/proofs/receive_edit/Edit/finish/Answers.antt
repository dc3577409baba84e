use Rattle.std.proofs.Common.{◌∙◌, ◌∷◌, [], None, true, false, sym, subst, refl}
use Rattle.ra_edit.specs.Edits.{last_calls}
use Rattle.ra_edit.proofs.Steps.{ends, done_after_root}
use Rattle.std.proofs.lemmas.Result.{err_from_is_err_and}
use Rattle.ra_edit.proofs.OwnRefusals.{end_met, at_once, one_more, one_later}
use Rattle.delta_editor.specs.declared.call.Call.TheVariants as call
use Rattle.ra_edit.proofs.LeftOpen.{nothing_open}
use Rattle.ra_edit.proofs.receive_edit.Edit.finish.Goals as goal

pub returns-then-root-clause-done : goal.returns-then-root-clause-done
returns-then-root-clause-done g c =
    let k = c.is_closed.ensures.closed c.if-not-is_closed.false in
    λ at item f h. (
      last_calls true,
      ends _ _ _ _ _ item at true k.0 k.1 (sym c.if-root.true ∙ c.has_root-root.ensures) f h,
      λ shown s. c.in_ok-close_edit.ensures.shown shown (subst (λ x. g.E.Editor.shows x shown) (sym c.into_closed-editor.ensures) s),
    )

pub returns-clause-done : goal.returns-clause-done
returns-clause-done g c =
    let k = c.is_closed.ensures.closed c.if-not-is_closed.false in
    λ at item f h. (
      last_calls false,
      ends _ _ _ _ _ item at false k.0 k.1 (sym c.if-root.false ∙ c.has_root-root.ensures) f h,
      done_after_root g.E.Editor.shows g.E.Editor.done_shows c.args.self.editor _ c.show_root.new.editor c.in_ok-close_edit-2.field-0 c.into_closed-editor.ensures c.in_default.ensures.shown c.in_ok-close_edit-2.ensures.shown,
    )

pub returns-in_err-close_edit-clause-own : goal.returns-in_err-close_edit-clause-own
returns-in_err-close_edit-clause-own g c =
    let p = err_from_is_err_and c.from_residual.result c.from_residual.ensures.1 in
    rw (p.1, p.2) (λ at h. end_met _ _ _ _ _ _ _ _ _ at true _ (sym c.if-root.true ∙ c.has_root-root.ensures) h (at_once _ _ _ _ _ _ _ _ c.into_closed-editor.ensures refl c.in_err-close_edit.ensures.refused))

pub returns-in-Err-clause-own : goal.returns-in-Err-clause-own
returns-in-Err-clause-own g c =
    rw c.into.ensures (λ at h. end_met _ _ _ _ _ _ _ _ _ at false _ (sym c.if-root.false ∙ c.has_root-root.ensures) h (one_more _ _ _ _ _ _ (call.CloseEdit ∷ []) _ c.into_closed-editor.ensures c.in-Err.ensures.refused))

pub returns-in_err-close_edit-2-clause-own : goal.returns-in_err-close_edit-2-clause-own
returns-in_err-close_edit-2-clause-own g c =
    let p = err_from_is_err_and c.from_residual-in_err-close_edit-2.result c.from_residual-in_err-close_edit-2.ensures.1 in
    let root = call.OpenRoot None ∷ call.CloseDir [] ∷ [] in
    let one = one_later g.E.Editor.shows g.E.Editor.began g.E.Editor.refuses c.into_closed-editor.result c.show_root.new.editor root call.CloseEdit call.CloseEdit [] c.in_err-close_edit-2.field-0.0 c.in_default.ensures.shown c.show_root.ensures.began refl c.in_err-close_edit-2.ensures.refused in
    rw (p.1, p.2) (λ at h. end_met _ _ _ _ _ _ _ _ _ at false _ (sym c.if-root.false ∙ c.has_root-root.ensures) h (one_more _ _ _ _ _ (last_calls false) [] _ c.into_closed-editor.ensures one))

pub returns-in_err-close_edit-clause-gives_up : goal.returns-in_err-close_edit-clause-gives_up
returns-in_err-close_edit-clause-gives_up g c =
    let k = c.is_closed.ensures.closed c.if-not-is_closed.false in
    let p = err_from_is_err_and c.from_residual.result c.from_residual.ensures.1 in
    rw p.1 (nothing_open g.E.Editor.lets_go g.E.Editor.given_up g.E.Editor.dir_path g.E.Editor.file_path _ _ c.into_closed-editor.result k.0 k.1 c.in_err-close_edit.ensures.given_up)

pub returns-in-Err-clause-gives_up : goal.returns-in-Err-clause-gives_up
returns-in-Err-clause-gives_up g c =
    let k = c.is_closed.ensures.closed c.if-not-is_closed.false in
    nothing_open g.E.Editor.lets_go g.E.Editor.given_up g.E.Editor.dir_path g.E.Editor.file_path _ _ c.show_root.new.editor k.0 k.1 c.abort_edit.ensures

pub returns-in_err-close_edit-2-clause-gives_up : goal.returns-in_err-close_edit-2-clause-gives_up
returns-in_err-close_edit-2-clause-gives_up g c =
    let k = c.is_closed.ensures.closed c.if-not-is_closed.false in
    let p = err_from_is_err_and c.from_residual-in_err-close_edit-2.result c.from_residual-in_err-close_edit-2.ensures.1 in
    rw p.1 (nothing_open g.E.Editor.lets_go g.E.Editor.given_up g.E.Editor.dir_path g.E.Editor.file_path _ _ c.show_root.new.editor k.0 k.1 c.in_err-close_edit-2.ensures.given_up)
