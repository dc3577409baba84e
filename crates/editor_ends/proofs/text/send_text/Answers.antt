use Rattle.std.proofs.Common.{rules, map, subst, ◌∙◌, ◌∷◌, ◌++◌, []}
use Rattle.std.specs.Prelude.{IfErr}
use Rattle.std.proofs.lemmas.Result.{err_from_is_err_and}
use Rattle.delta_editor.specs.Calls.{Adds, Refused}
use Rattle.delta_editor.specs.declared.call.Call.TheVariants as call
use Rattle.editor_ends.specs.Parts.{pieces}
use Rattle.editor_ends.specs.Shown.{Stops}
use Rattle.editor_ends.proofs.Showing.{stop_here, stopped_before, stop_next, stop_later}
use Rattle.editor_ends.proofs.text.send_text.Goals as goal

pub returns-in_err-text_start-clause-stops : goal.returns-in_err-text_start-clause-stops
returns-in_err-text_start-clause-stops g c = search (rules, stop_here)

pub returns-in_err-send_pieces-clause-stops : goal.returns-in_err-send_pieces-clause-stops
returns-in_err-send_pieces-clause-stops g c =
    let stops = subst (λ p. Stops g.E.Editor.shows g.E.Editor.began g.E.Editor.refuses c.text_start.new.self (map (call.TextPiece p) (pieces c.args.text.now)) c.in_err-send_pieces.field-0.0) c.in_ok-text_start.ensures.baton
    (subst (λ t. Stops g.E.Editor.shows g.E.Editor.began g.E.Editor.refuses c.text_start.new.self (map (call.TextPiece (g.E.Editor.file_path c.text_start.new.file)) (pieces t)) c.in_err-send_pieces.field-0.0) c.as_slice.ensures c.in_err-send_pieces.ensures.stops) in
    let failed = err_from_is_err_and c.from_residual-in_err-send_pieces.result c.from_residual-in_err-send_pieces.ensures.1 in
    let p = g.E.Editor.file_path c.args.file.now in
    stop_next g.E.Editor.shows g.E.Editor.began g.E.Editor.refuses c.args.editor.now c.text_start.new.self (call.TextStart p) (map (call.TextPiece p) (pieces c.args.text.now) ++ call.TextEnd p ∷ []) c.from_residual-in_err-send_pieces.result c.in_ok-text_start.ensures.shown c.in_ok-text_start.ensures.began
    (rw (failed.1, failed.2) (stopped_before g.E.Editor.shows g.E.Editor.began g.E.Editor.refuses c.text_start.new.self (map (call.TextPiece p) (pieces c.args.text.now)) (call.TextEnd p ∷ []) c.in_err-send_pieces.field-0.0 stops))

pub returns-clause-stops : goal.returns-clause-stops
returns-clause-stops g c =
    let p = g.E.Editor.file_path c.args.file.now in
    stop_next g.E.Editor.shows g.E.Editor.began g.E.Editor.refuses c.args.editor.now c.text_start.new.self (call.TextStart p) _ c.text_end.result c.in_ok-text_start.ensures.shown c.in_ok-text_start.ensures.began
    (stop_later g.E.Editor.shows g.E.Editor.began g.E.Editor.refuses c.text_start.new.self c.send_pieces.new.editor (map (call.TextPiece p) (pieces c.args.text.now)) (call.TextEnd p ∷ []) c.text_end.result
    (subst (λ q. Adds g.E.Editor.shows c.text_start.new.self c.send_pieces.new.editor (map (call.TextPiece q) (pieces c.args.text.now))) c.in_ok-text_start.ensures.baton
    (subst (λ t. Adds g.E.Editor.shows c.text_start.new.self c.send_pieces.new.editor (map (call.TextPiece (g.E.Editor.file_path c.text_start.new.file)) (pieces t))) c.as_slice.ensures c.in_ok-send_pieces.ensures.shown))
    c.in_ok-send_pieces.ensures.began
    (stop_here g.E.Editor.shows g.E.Editor.began g.E.Editor.refuses c.send_pieces.new.editor (call.TextEnd p) [] c.text_end.result
    (subst (λ q. IfErr c.text_end.result (Refused g.E.Editor.shows g.E.Editor.began g.E.Editor.refuses c.send_pieces.new.editor (call.TextEnd q))) (c.in_ok-send_pieces.ensures.baton ∙ c.in_ok-text_start.ensures.baton) c.text_end.ensures.refused)))
