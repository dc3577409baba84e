use Rattle.std.proofs.Common.{◌∷◌, ◌++◌, [], ap, map, subst, ◌∙◌, arith}
use Rattle.std.proofs.lemmas.Result.{err_from_is_err_and}
use Rattle.delta_editor.specs.Calls.{Refused}
use Rattle.delta_editor.specs.declared.call.Call.TheVariants as call
use Rattle.editor_ends.specs.Parts.{pieces}
use Rattle.editor_ends.proofs.Showing.{shown_one, pieces_step, stops_first, stops_behind}
use Rattle.editor_ends.proofs.text.send_pieces.Goals as goal

pub loop-left-preserved : goal.loop-left-preserved
loop-left-preserved g c =
    let p = g.E.Editor.file_path c.args.file.now in (
      shown_one g.E.Editor.shows c.args.editor.now c.loop-left.editor c.text_piece.new.self (map (call.TextPiece p) (pieces c.args.text.now)) (map (call.TextPiece p) (pieces c.loop-left.left.now)) (map (call.TextPiece p) (pieces c.split_at.result.1.now)) (call.TextPiece p c.split_at.result.0.now) c.loop-left.invariant.0
          (λ calls h. subst (λ d. g.E.Editor.shows c.text_piece.new.self (calls ++ call.TextPiece d c.split_at.result.0.now ∷ [])) c.loop-left.invariant.1 (c.in_ok-text_piece.ensures.shown calls h))
          (ap (map (call.TextPiece p)) (pieces_step c.loop-left.left.now c.split_at.result.0.now c.split_at.result.1.now c.min.result (grind (arith, c.loop-left-test.true, c.loop-left-test.ensures)) (grind (arith, c.min.ensures)) c.split_at.ensures.front c.split_at.ensures.back)),
      c.in_ok-text_piece.ensures.baton ∙ c.loop-left.invariant.1,
      c.in_ok-text_piece.ensures.began ∙ c.loop-left.invariant.2,
    )

pub returns-in_err-text_piece-clause-stops : goal.returns-in_err-text_piece-clause-stops
returns-in_err-text_piece-clause-stops g c =
    let p = g.E.Editor.file_path c.args.file.now in
    let failed = err_from_is_err_and c.from_residual.result c.from_residual.ensures.1 in
    let refused = subst (λ d. Refused g.E.Editor.shows g.E.Editor.began g.E.Editor.refuses c.loop-left.editor (call.TextPiece d c.split_at.result.0.now) c.in_err-text_piece.field-0.0) c.loop-left.invariant.1 c.in_err-text_piece.ensures.refused in
    let step = pieces_step c.loop-left.left.now c.split_at.result.0.now c.split_at.result.1.now c.min.result (grind (arith, c.loop-left-test.true, c.loop-left-test.ensures)) (grind (arith, c.min.ensures)) c.split_at.ensures.front c.split_at.ensures.back in
    rw (failed.1, failed.2)
    (stops_behind g.E.Editor.shows g.E.Editor.began g.E.Editor.refuses c.args.editor.now c.loop-left.editor (map (call.TextPiece p) (pieces c.args.text.now)) (map (call.TextPiece p) (pieces c.loop-left.left.now)) c.in_err-text_piece.field-0.0 c.loop-left.invariant.0 c.loop-left.invariant.2
    (stops_first g.E.Editor.shows g.E.Editor.began g.E.Editor.refuses c.loop-left.editor (call.TextPiece p c.split_at.result.0.now) (map (call.TextPiece p) (pieces c.split_at.result.1.now)) (map (call.TextPiece p) (pieces c.loop-left.left.now)) c.in_err-text_piece.field-0.0 refused (ap (map (call.TextPiece p)) step)))
