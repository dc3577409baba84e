use Rattle.std.proofs.Common.{◌≡◌, drop}
use Rattle.delta_editor.specs.declared.call.Call.TheVariants as call
use Rattle.editor_ends.specs.Parts.{removals}
use Rattle.editor_ends.specs.Shown.{Shown}
use Rattle.editor_ends.proofs.props.unset_file.Given as goal

abbrev pub invariant-loop-name : goal.invariant-loop-name
invariant-loop-name g l =
    Shown g.E.Editor.shows l.fn.editor l.editor (removals (call.FileProp (g.E.Editor.file_path l.fn.file)) l.new l.entries) (removals (call.FileProp (g.E.Editor.file_path l.fn.file)) l.new (drop l.name-index l.entries))
    × (g.E.Editor.file_path l.file ≡ g.E.Editor.file_path l.fn.file)
    × (g.E.Editor.began l.editor ≡ g.E.Editor.began l.fn.editor)
