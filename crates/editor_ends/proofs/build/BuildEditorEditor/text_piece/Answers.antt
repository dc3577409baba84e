use Rattle.std.proofs.Common.{refl, true, false}
use Rattle.std.specs.Option.{option_map}
use Rattle.std.specs.FinMap.{get}
use Rattle.node_base.specs.NodeEdits.{with_piece}
use Rattle.path_tree.specs.NodeCalls.{piece_fault}
use Rattle.delta_editor.specs.declared.call.Call.TheVariants as call
use Rattle.delta_editor.specs.Faults.{refused}
use Rattle.editor_ends.specs.Built.{giving_text}
use Rattle.editor_ends.proofs.Shows.{pieces_on, piece_open}
use Rattle.editor_ends.proofs.Methods.{given_ok, given_err, faultless_told}
use Rattle.editor_ends.proofs.build.BuildEditorEditor.text_piece.Goals as goal

pub returns-clause-shown : goal.returns-clause-shown
returns-clause-shown c =
    let p = c.args.file.now.path in
    let piece = c.args.piece.now in
    given_ok c.append_text.result c.args.self.now.trees.now c.args.self.now.tree c.append_text.new.tree c.args.self.now.changes.items c.append_text.new.changes.items (call.TextPiece p piece) p (with_piece piece) giving_text false true (λ f. option_map refused (piece_fault f p piece)) (pieces_on p piece) (piece_open p piece) (λ calls. refl) (faultless_told c.append_text.result (piece_fault (get c.args.self.now.tree) p piece) c.append_text.ensures.faultless) c.append_text.ensures.gives

pub returns-clause-refused : goal.returns-clause-refused
returns-clause-refused c =
    let p = c.args.file.now.path in
    let piece = c.args.piece.now in
    given_err c.append_text.result c.args.self.now.trees.now c.args.self.now.tree c.args.self.now.changes.items (call.TextPiece p piece) p (λ f. option_map refused (piece_fault f p piece)) refl (piece_open p piece) (λ calls. refl) c.append_text.ensures.refused
