use Rattle.std.proofs.Common.{◌≡◌, ℕ, List, ◌++◌, length, map}
use Rattle.std.specs.List.{concat}
use Rattle.md5.specs.Md5.{Holds}
use Rattle.delta_editor.specs.Calls.{Adds}
use Rattle.delta_editor.specs.declared.call.Call.TheVariants as call
use Rattle.svndiff.specs.Streams.{reading, pieces_in, Reads}
use Rattle.ra_edit.proofs.receive_text.take_chunk.Given as goal

abbrev pub invariant-loop-rest : goal.invariant-loop-rest
invariant-loop-rest g l =
    (pieces : List (List ℕ))
    × Adds g.E.Editor.shows l.fn.editor l.editor (map (call.TextPiece (g.E.Editor.file_path l.fn.file)) pieces)
    × ((text : List ℕ) → reading (Reads text l.fn.reader) l.fn.bytes ≡ reading (Reads (text ++ concat pieces) l.reader) l.rest)
    × ((text : List ℕ) → Holds l.fn.sum text → Holds l.sum (text ++ concat pieces))
    × (g.E.Editor.file_path l.file ≡ g.E.Editor.file_path l.fn.file)
    × (g.E.Editor.began l.editor ≡ g.E.Editor.began l.fn.editor)
    × (pieces_in l.fn.reader l.fn.bytes ≡ pieces ++ pieces_in l.reader l.rest)

abbrev pub decreases-loop-rest : goal.decreases-loop-rest
decreases-loop-rest g l = length l.rest
