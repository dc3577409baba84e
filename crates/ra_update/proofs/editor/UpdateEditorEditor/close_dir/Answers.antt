use Rattle.delta_editor.specs.declared.call.Call.TheVariants as call
use Rattle.ra_update.specs.Updated.{path_of_dir}
use Rattle.ra_update.proofs.Nested.{carried_ok}
use Rattle.ra_update.proofs.editor.UpdateEditorEditor.close_dir.Goals as goal

pub returns-clause-shown : goal.returns-clause-shown
returns-clause-shown g c =
    carried_ok g.W.Write.contents c.args.self.now.inner c.close_dir.new.self c.args.self.now.facts.now c.args.self.now.reported.now (call.CloseDir (path_of_dir c.args.dir.wire)) c.close_dir.result c.close_dir.ensures.shown
