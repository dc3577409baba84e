use Rattle.delta_editor.specs.declared.call.Call.TheVariants as call
use Rattle.ra_update.proofs.Nested.{carried_ok}
use Rattle.ra_update.proofs.editor.UpdateEditorEditor.target.Goals as goal

pub returns-clause-shown : goal.returns-clause-shown
returns-clause-shown g c =
    carried_ok g.W.Write.contents c.args.self.now.inner c.target.new.self c.args.self.now.facts.now c.args.self.now.reported.now (call.Target c.args._rev) c.target.result c.target.ensures.shown
