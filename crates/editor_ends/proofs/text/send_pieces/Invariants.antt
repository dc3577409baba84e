use Rattle.std.proofs.Common.{◌≡◌, length, map}
use Rattle.delta_editor.specs.declared.call.Call.TheVariants as call
use Rattle.editor_ends.specs.Parts.{pieces}
use Rattle.editor_ends.specs.Shown.{Shown}
use Rattle.editor_ends.proofs.text.send_pieces.Given as goal

abbrev pub invariant-loop-left : goal.invariant-loop-left
invariant-loop-left g l =
    Shown g.E.Editor.shows l.fn.editor l.editor (map (call.TextPiece (g.E.Editor.file_path l.fn.file)) (pieces l.fn.text)) (map (call.TextPiece (g.E.Editor.file_path l.fn.file)) (pieces l.left))
    × (g.E.Editor.file_path l.file ≡ g.E.Editor.file_path l.fn.file)
    × (g.E.Editor.began l.editor ≡ g.E.Editor.began l.fn.editor)

abbrev pub decreases-loop-left : goal.decreases-loop-left
decreases-loop-left g l = length l.left
