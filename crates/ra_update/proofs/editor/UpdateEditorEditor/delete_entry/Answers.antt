use Rattle.delta_editor.specs.declared.call.Call.TheVariants as call
use Rattle.ra_update.specs.Updated.{path_of_dir}
use Rattle.ra_update.proofs.Nested.{carried_ok}
use Rattle.ra_update.proofs.editor.UpdateEditorEditor.delete_entry.Goals as goal

pub returns-clause-shown : goal.returns-clause-shown
returns-clause-shown g c =
    carried_ok g.W.Write.contents c.args.self.now.inner c.delete_entry.new.self c.args.self.now.facts.now c.args.self.now.reported.now (call.DeleteEntry (path_of_dir c.args.up.now.wire) c.args.path.now c.args._base) c.delete_entry.result c.delete_entry.ensures.shown
