use Rattle.std.proofs.Common.{[], Some, None, refl, true, false}
use Rattle.std.specs.Option.{option_map}
use Rattle.std.specs.FinMap.{get}
use Rattle.node_base.specs.Tree.{with_given}
use Rattle.path_tree.specs.Calls.{text_fault}
use Rattle.delta_editor.specs.declared.call.Call.TheVariants as call
use Rattle.delta_editor.specs.Faults.{refused}
use Rattle.editor_ends.specs.Built.{giving_text}
use Rattle.editor_ends.proofs.Shows.{starts, start_open}
use Rattle.editor_ends.proofs.Methods.{given_ok, given_err, faultless_told}
use Rattle.editor_ends.proofs.build.BuildEditorEditor.text_start.Goals as goal

pub returns-clause-shown : goal.returns-clause-shown
returns-clause-shown c =
    let p = c.args.file.now.path in
    given_ok c.start_text.result c.args.self.now.trees.now c.args.self.now.tree c.start_text.new.tree c.args.self.now.changes.items c.start_text.new.changes.items (call.TextStart p) p (with_given (Some []) None) giving_text false true (λ f. option_map refused (text_fault f p)) (starts p) (start_open p) (λ calls. refl) (faultless_told c.start_text.result (text_fault (get c.args.self.now.tree) p) c.start_text.ensures.faultless) c.start_text.ensures.gives

pub returns-clause-refused : goal.returns-clause-refused
returns-clause-refused c =
    let p = c.args.file.now.path in
    given_err c.start_text.result c.args.self.now.trees.now c.args.self.now.tree c.args.self.now.changes.items (call.TextStart p) p (λ f. option_map refused (text_fault f p)) refl (start_open p) (λ calls. refl) c.start_text.ensures.refused
