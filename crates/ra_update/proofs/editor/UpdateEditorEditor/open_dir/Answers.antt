use Rattle.std.proofs.Common.{◌∷◌, sym, ap}
use Rattle.delta_editor.specs.declared.call.Call.TheVariants as call
use Rattle.ra_update.specs.Entries.{entry_calls}
use Rattle.ra_update.specs.Updated.{path_of_dir}
use Rattle.ra_update.proofs.Nested.{opened_shown, opened_refused}
use Rattle.ra_update.proofs.editor.UpdateEditorEditor.open_dir.Goals as goal

pub returns-clause-shown : goal.returns-clause-shown
returns-clause-shown g c =
    opened_shown g.W.Write.contents c.args.self.now.inner c.open_dir.new.self c.entered.new.editor c.args.self.now.facts.now c.args.self.now.reported.now (call.OpenDir (path_of_dir c.args.up.now.wire) c.args.path.now c.args._base) (call.OpenDir (path_of_dir c.args.up.now.wire) c.args.path.now c.args.self.now.facts.now.base) (entry_calls c.args.self.now.facts.now call.DirProp c.in_ok-place.place) c.entered.result (ap (λ q. (call.OpenDir (path_of_dir c.args.up.now.wire) c.args.path.now c.args.self.now.facts.now.base) ∷ entry_calls c.args.self.now.facts.now call.DirProp q) (sym c.in_ok-place.ensures)) c.in_ok-dir.ensures.shown c.entered.ensures.shown

pub returns-clause-refused : goal.returns-clause-refused
returns-clause-refused g c = opened_refused g.W.Write.contents c.args.self.now.inner c.open_dir.new.self c.args.self.now.facts.now c.args.self.now.reported.now (call.OpenDir (path_of_dir c.args.up.now.wire) c.args.path.now c.args.self.now.facts.now.base) c.entered.result c.in_ok-dir.ensures.shown c.entered.ensures.refused
