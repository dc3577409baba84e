use Rattle.std.proofs.Common.{◌∙◌, [], subst}
use Rattle.std.specs.Prelude.{IfErr}
use Rattle.std.specs.Option.{option_map_or, option_map}
use Rattle.md5.specs.Md5.{md5}
use Rattle.delta_editor.specs.Calls.{Refused}
use Rattle.delta_editor.specs.declared.call.Call.TheVariants as call
use Rattle.editor_ends.specs.Drive.{opening}
use Rattle.editor_ends.specs.Parts.{prop_calls, text_calls}
use Rattle.editor_ends.proofs.Showing.{stop_last, stopped_middle}
use Rattle.editor_ends.proofs.parts.show_file.Goals as goal
use Rattle.std.proofs.Common.{true}

pub returns-in-Ok-clause-stops : goal.returns-in-Ok-clause-stops
returns-in-Ok-clause-stops g c =
    let x = c.args.change.now in
    stop_last g.E.Editor.shows g.E.Editor.began g.E.Editor.refuses c.args.editor.now c.open_file.new.editor c.give_file.new.editor (opening c.args.trees.now true x) (option_map_or (prop_calls (call.FileProp x.path) c.args.old.now) x.props []) (option_map_or (text_calls x.path) x.text []) (call.CloseFile x.path (option_map md5 x.text)) c.close_file.result c.in_ok-file.ensures.shown c.in_ok-file.ensures.began c.in-Ok.ensures.shown c.in-Ok.ensures.began
    (subst (λ p. IfErr c.close_file.result (Refused g.E.Editor.shows g.E.Editor.began g.E.Editor.refuses c.give_file.new.editor (call.CloseFile p (option_map md5 x.text)))) (c.in-Ok.ensures.baton ∙ c.in_ok-file.ensures.baton)
    (subst (λ s. IfErr c.close_file.result (Refused g.E.Editor.shows g.E.Editor.began g.E.Editor.refuses c.give_file.new.editor (call.CloseFile (g.E.Editor.file_path c.give_file.new.file) s))) c.sum_of.ensures c.close_file.ensures.refused))

pub returns-in-Err-clause-stops : goal.returns-in-Err-clause-stops
returns-in-Err-clause-stops g c =
    let x = c.args.change.now in
    stopped_middle g.E.Editor.shows g.E.Editor.began g.E.Editor.refuses c.args.editor.now c.open_file.new.editor (opening c.args.trees.now true x) (option_map_or (prop_calls (call.FileProp x.path) c.args.old.now) x.props []) (option_map_or (text_calls x.path) x.text []) (call.CloseFile x.path (option_map md5 x.text)) c.in-Err.fault c.in_ok-file.ensures.shown c.in_ok-file.ensures.began c.in-Err.ensures.stops
