use Rattle.std.proofs.Common.{[], ◌∷◌, ◌∙◌, subst}
use Rattle.std.specs.Prelude.{IfErr}
use Rattle.std.proofs.lemmas.Result.{err_from_is_err_and}
use Rattle.delta_editor.specs.Calls.{Adds, Refused}
use Rattle.delta_editor.specs.declared.call.Call.TheVariants as call
use Rattle.editor_ends.proofs.Edits.{halts_at_root, halts_inside, halts_at_close}
use Rattle.editor_ends.proofs.show.show_edit.Goals as goal

pub returns-in_err-root-clause-halts : goal.returns-in_err-root-clause-halts
returns-in_err-root-clause-halts g c =
    let failed = err_from_is_err_and c.from_residual-in_err-root.result c.from_residual-in_err-root.ensures.1 in
    let one = subst (λ n. Adds g.E.Editor.shows c.args.editor.now c.target.new.self (call.Target n ∷ [])) c.next_number.ensures c.in_ok-target.ensures.shown in
    let refused = subst (λ b. Refused g.E.Editor.shows g.E.Editor.began g.E.Editor.refuses c.target.new.self (call.OpenRoot b) c.in_err-root.field-0.0) c.base_of.ensures c.in_err-root.ensures.refused in
    rw (failed.1, failed.2) (halts_at_root g.E.Editor.shows g.E.Editor.began g.E.Editor.refuses c.args.revision.now.trees.now c.args.revision.now.set.now c.args.editor.now c.target.new.self one c.in_ok-target.ensures.began c.in_err-root.field-0.0 refused)

pub returns-in-Ok-clause-halts : goal.returns-in-Ok-clause-halts
returns-in-Ok-clause-halts g c =
    let one = subst (λ n. Adds g.E.Editor.shows c.args.editor.now c.target.new.self (call.Target n ∷ [])) c.next_number.ensures c.in_ok-target.ensures.shown in
    let two = subst (λ b. Adds g.E.Editor.shows c.target.new.self c.open_root.new.self (call.OpenRoot b ∷ [])) c.base_of.ensures c.in_ok-root.ensures.shown in
    let refused = subst (λ p. IfErr c.close_dir.result (Refused g.E.Editor.shows g.E.Editor.began g.E.Editor.refuses c.show_all.new.editor (call.CloseDir p))) (c.in-Ok.ensures.baton ∙ c.in_ok-root.ensures.baton) c.close_dir.ensures.refused in
    halts_at_close g.E.Editor.shows g.E.Editor.began g.E.Editor.refuses c.args.revision.now.trees.now c.args.revision.now.set.now c.args.editor.now c.target.new.self one c.in_ok-target.ensures.began c.open_root.new.self two c.in_ok-root.ensures.began c.show_all.new.editor c.close_dir.result c.in-Ok.ensures.shown c.in-Ok.ensures.began refused

pub returns-in-Err-clause-halts : goal.returns-in-Err-clause-halts
returns-in-Err-clause-halts g c =
    let one = subst (λ n. Adds g.E.Editor.shows c.args.editor.now c.target.new.self (call.Target n ∷ [])) c.next_number.ensures c.in_ok-target.ensures.shown in
    let two = subst (λ b. Adds g.E.Editor.shows c.target.new.self c.open_root.new.self (call.OpenRoot b ∷ [])) c.base_of.ensures c.in_ok-root.ensures.shown in
    halts_inside g.E.Editor.shows g.E.Editor.began g.E.Editor.refuses c.args.revision.now.trees.now c.args.revision.now.set.now c.args.editor.now c.target.new.self one c.in_ok-target.ensures.began c.open_root.new.self two c.in_ok-root.ensures.began c.in-Err.fault c.in-Err.ensures.halts
