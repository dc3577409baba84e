use Rattle.std.proofs.Common.{refl}
use Rattle.delta_editor.specs.declared.call.Call.TheVariants as call
use Rattle.editor_ends.proofs.Shows.{adds_silent, text_ends}
use Rattle.editor_ends.proofs.build.BuildEditorEditor.text_end.Goals as goal

pub returns-clause-shown : goal.returns-clause-shown
returns-clause-shown c = λ calls h.
    adds_silent c.args.self.now.trees.now c.args.self.now.tree c.args.self.now.changes.items (call.TextEnd c.args.file.now.path) (text_ends c.args.file.now.path) calls refl h
