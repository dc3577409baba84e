use Rattle.ra_update.proofs.Nested.{carried_no_more}
use Rattle.ra_update.proofs.editor.UpdateEditorEditor.discard_file.Goals as goal

pub returns-clause-shown : goal.returns-clause-shown
returns-clause-shown g c = carried_no_more g.W.Write.contents c.args.self.now.inner c.discard_file.new.self c.args.self.now.facts.now c.args.self.now.reported.now c.discard_file.ensures.shown
