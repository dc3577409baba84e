use Rattle.std.proofs.Common.{◌≡◌, drop}
use Rattle.delta_editor.specs.declared.call.Call.TheVariants as call
use Rattle.editor_ends.specs.Parts.{settings}
use Rattle.editor_ends.specs.Shown.{Shown}
use Rattle.editor_ends.proofs.props.set_dir.Given as goal

abbrev pub invariant-loop-name : goal.invariant-loop-name
invariant-loop-name g l =
    Shown g.E.Editor.shows l.fn.editor l.editor (settings (call.DirProp (g.E.Editor.dir_path l.fn.dir)) l.entries) (settings (call.DirProp (g.E.Editor.dir_path l.fn.dir)) (drop l.name-index l.entries))
    × (g.E.Editor.dir_path l.dir ≡ g.E.Editor.dir_path l.fn.dir)
    × (g.E.Editor.began l.editor ≡ g.E.Editor.began l.fn.editor)
