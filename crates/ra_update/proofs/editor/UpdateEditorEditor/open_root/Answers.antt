use Rattle.ra_update.proofs.Nested.{opened_shown, opened_refused}
use Rattle.delta_editor.specs.declared.call.Call.TheVariants as call
use Rattle.std.proofs.Common.{refl}
use Rattle.ra_update.specs.Entries.{root_calls}
use Rattle.ra_update.proofs.editor.UpdateEditorEditor.open_root.Goals as goal

pub returns-clause-shown : goal.returns-clause-shown
returns-clause-shown g c =
    opened_shown g.W.Write.contents c.args.self.now.inner c.open_root.new.self c.root_entered.new.editor c.args.self.now.facts.now c.args.self.now.reported.now (call.OpenRoot c.args._base) (call.OpenRoot c.args.self.now.facts.now.base) (root_calls c.args.self.now.facts.now) c.root_entered.result refl c.in_ok-dir.ensures.shown c.root_entered.ensures.shown

pub returns-clause-refused : goal.returns-clause-refused
returns-clause-refused g c = opened_refused g.W.Write.contents c.args.self.now.inner c.open_root.new.self c.args.self.now.facts.now c.args.self.now.reported.now (call.OpenRoot c.args.self.now.facts.now.base) c.root_entered.result c.in_ok-dir.ensures.shown c.root_entered.ensures.refused
