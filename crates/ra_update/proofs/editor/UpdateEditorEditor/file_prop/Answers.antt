use Rattle.std.proofs.Common.{◌∙◌, refl, sym, ap}
use Rattle.std.specs.Option.{option_map}
use Rattle.delta_editor.specs.declared.call.Call.TheVariants as call
use Rattle.ra_update.specs.Reported.{file_in, has_already}
use Rattle.ra_update.specs.Updated.{path_of_file}
use Rattle.ra_update.proofs.Nested.{carried_unless, left_out}
use Rattle.ra_update.proofs.editor.UpdateEditorEditor.file_prop.Goals as goal

pub returns-then-has_already-clause-shown : goal.returns-then-has_already-clause-shown
returns-then-has_already-clause-shown g c =
    left_out g.W.Write.contents c.args.self.now.inner c.args.self.now.facts.now c.args.self.now.reported.now (call.FileProp (path_of_file c.args.file.now.wire) c.args.name.now (option_map (λ v. v.now) c.args.value))
    (has_already (file_in c.args.self.now.reported.now (path_of_file c.args.file.now.wire)) c.args.name.now (option_map (λ v. v.now) c.args.value)) refl
    (sym (c.has_already.ensures ∙ ap (λ o. has_already o c.args.name.now (option_map (λ v. v.now) c.args.value)) (c.file_in.ensures ∙ ap (file_in c.args.self.now.reported.now) c.args.file.now.same)) ∙ c.if-has_already.true)

pub returns-clause-shown : goal.returns-clause-shown
returns-clause-shown g c =
    carried_unless g.W.Write.contents c.args.self.now.inner c.file_prop.new.self c.args.self.now.facts.now c.args.self.now.reported.now (call.FileProp (path_of_file c.args.file.now.wire) c.args.name.now (option_map (λ v. v.now) c.args.value))
    (has_already (file_in c.args.self.now.reported.now (path_of_file c.args.file.now.wire)) c.args.name.now (option_map (λ v. v.now) c.args.value)) c.file_prop.result refl
    (sym (c.has_already.ensures ∙ ap (λ o. has_already o c.args.name.now (option_map (λ v. v.now) c.args.value)) (c.file_in.ensures ∙ ap (file_in c.args.self.now.reported.now) c.args.file.now.same)) ∙ c.if-has_already.false) c.file_prop.ensures.shown
