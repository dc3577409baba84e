use Rattle.std.proofs.Common.{◌∷◌, sym, ap}
use Rattle.std.specs.Option.{option_copied}
use Rattle.delta_editor.specs.declared.call.Call.TheVariants as call
use Rattle.ra_update.specs.Entries.{entry_calls}
use Rattle.ra_update.specs.Updated.{path_of_dir}
use Rattle.ra_update.proofs.Nested.{opened_shown, opened_refused}
use Rattle.ra_update.proofs.editor.UpdateEditorEditor.add_file.Goals as goal

pub returns-clause-shown : goal.returns-clause-shown
returns-clause-shown g c =
    opened_shown g.W.Write.contents c.args.self.now.inner c.add_file.new.self c.started.new.editor c.args.self.now.facts.now c.args.self.now.reported.now (call.AddFile (path_of_dir c.args.up.now.wire) c.args.path.now (option_copied c.args.from)) (call.AddFile (path_of_dir c.args.up.now.wire) c.args.path.now (option_copied c.args.from)) (entry_calls c.args.self.now.facts.now call.FileProp c.in_ok-place.place) c.started.result (ap (λ q. (call.AddFile (path_of_dir c.args.up.now.wire) c.args.path.now (option_copied c.args.from)) ∷ entry_calls c.args.self.now.facts.now call.FileProp q) (sym c.in_ok-place.ensures)) c.in_ok-file.ensures.shown c.started.ensures.shown

pub returns-clause-refused : goal.returns-clause-refused
returns-clause-refused g c = opened_refused g.W.Write.contents c.args.self.now.inner c.add_file.new.self c.args.self.now.facts.now c.args.self.now.reported.now (call.AddFile (path_of_dir c.args.up.now.wire) c.args.path.now (option_copied c.args.from)) c.started.result c.in_ok-file.ensures.shown c.started.ensures.refused
