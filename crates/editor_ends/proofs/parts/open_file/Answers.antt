use Rattle.std.proofs.Common.{rules, [], ◌∷◌, subst, ◌∙◌}
use Rattle.std.specs.Prelude.{IfErr}
use Rattle.delta_editor.specs.Calls.{Adds, Refused}
use Rattle.delta_editor.specs.declared.call.Call.TheVariants as call
use Rattle.editor_ends.specs.Fronts.{above}
use Rattle.editor_ends.specs.Drive.{base_number}
use Rattle.editor_ends.proofs.Showing.{stop_here, stop_before, stop_next}
use Rattle.editor_ends.proofs.parts.open_file.Goals as goal

pub returns-in_err-delete_entry-in-Replace-clause-stops : goal.returns-in_err-delete_entry-in-Replace-clause-stops
returns-in_err-delete_entry-in-Replace-clause-stops g c = rw c.in-Replace.is (search (rules, stop_here, stop_before))

pub returns-in-Modify-clause-stops : goal.returns-in-Modify-clause-stops
returns-in-Modify-clause-stops g c = rw c.in-Modify.is (search (rules, stop_here, stop_before))

pub returns-in-Add-clause-stops : goal.returns-in-Add-clause-stops
returns-in-Add-clause-stops g c = rw c.in-Add.is (search (rules, stop_here, stop_before))

pub returns-in_ok-delete_entry-in-Replace-clause-stops : goal.returns-in_ok-delete_entry-in-Replace-clause-stops
returns-in_ok-delete_entry-in-Replace-clause-stops g c =
    let x = c.args.change.now in
    let r = c.add_file-in-Replace.result in
    let refused =
    subst (λ u. IfErr r (Refused g.E.Editor.shows g.E.Editor.began g.E.Editor.refuses c.delete_entry.new.self (call.AddFile u x.path x.source))) (c.in_ok-delete_entry-in-Replace.ensures.up ∙ c.requires.up)
    (subst (λ s. IfErr r (Refused g.E.Editor.shows g.E.Editor.began g.E.Editor.refuses c.delete_entry.new.self (call.AddFile (g.E.Editor.dir_path c.delete_entry.new.up) x.path s))) c.source_of-source.ensures c.add_file-in-Replace.ensures.refused) in
    let deleted =
    subst (λ u. Adds g.E.Editor.shows c.args.editor.now c.delete_entry.new.self (call.DeleteEntry u x.path (base_number c.args.trees.now) ∷ [])) c.requires.up
    (subst (λ b. Adds g.E.Editor.shows c.args.editor.now c.delete_entry.new.self (call.DeleteEntry (g.E.Editor.dir_path c.args.up.now) x.path b ∷ [])) c.base_of-base.ensures c.in_ok-delete_entry-in-Replace.ensures.shown) in
    rw c.in-Replace.is
    (stop_next g.E.Editor.shows g.E.Editor.began g.E.Editor.refuses c.args.editor.now c.delete_entry.new.self (call.DeleteEntry (above x.path) x.path (base_number c.args.trees.now)) (call.AddFile (above x.path) x.path x.source ∷ []) r deleted c.in_ok-delete_entry-in-Replace.ensures.began
    (stop_here g.E.Editor.shows g.E.Editor.began g.E.Editor.refuses c.delete_entry.new.self (call.AddFile (above x.path) x.path x.source) [] r refused))
