use Rattle.std.proofs.Common.{refl}
use Rattle.delta_editor.specs.declared.call.Call.TheVariants as call
use Rattle.editor_ends.proofs.Shows.{adds_silent, closes_dir}
use Rattle.editor_ends.proofs.build.BuildEditorEditor.close_dir.Goals as goal

pub returns-clause-shown : goal.returns-clause-shown
returns-clause-shown c = λ calls h.
    adds_silent c.args.self.now.trees.now c.args.self.now.tree c.args.self.now.changes.items (call.CloseDir c.args.dir.path) (closes_dir c.args.dir.path) calls refl h
