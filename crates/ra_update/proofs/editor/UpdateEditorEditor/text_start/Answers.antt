use Rattle.delta_editor.specs.declared.call.Call.TheVariants as call
use Rattle.ra_update.specs.Updated.{path_of_file}
use Rattle.ra_update.proofs.Nested.{carried_ok}
use Rattle.ra_update.proofs.editor.UpdateEditorEditor.text_start.Goals as goal

pub returns-clause-shown : goal.returns-clause-shown
returns-clause-shown g c =
    carried_ok g.W.Write.contents c.args.self.now.inner c.text_start.new.self c.args.self.now.facts.now c.args.self.now.reported.now (call.TextStart (path_of_file c.args.file.now.wire)) c.text_start.result c.text_start.ensures.shown
