use Rattle.std.proofs.Common.{refl, true, false}
use Rattle.std.specs.Option.{option_map}
use Rattle.node_base.specs.NodeEdits.{with_prop}
use Rattle.delta_editor.specs.declared.call.Call.TheVariants as call
use Rattle.editor_ends.specs.BuildFaults.{put_fault}
use Rattle.editor_ends.specs.Built.{giving_props}
use Rattle.editor_ends.proofs.Shows.{puts_dir, dir_open}
use Rattle.editor_ends.proofs.Methods.{given_ok, given_err}
use Rattle.editor_ends.proofs.build.BuildEditorEditor.dir_prop.Goals as goal

pub returns-clause-shown : goal.returns-clause-shown
returns-clause-shown c =
    let p = c.args.dir.now.path in
    let name = c.args.name.now in
    let value = option_map (λ v. v.now) c.args.value in
    given_ok c.put_prop.result c.args.self.now.trees.now c.args.self.now.tree c.put_prop.new.tree c.args.self.now.changes.items c.put_prop.new.changes.items (call.DirProp p name value) p (with_prop name value) giving_props true false (λ f. put_fault f p name value) (puts_dir p name value) (dir_open p name value) (λ calls. refl) c.put_prop.ensures.faultless c.put_prop.ensures.gives

pub returns-clause-refused : goal.returns-clause-refused
returns-clause-refused c =
    let p = c.args.dir.now.path in
    let name = c.args.name.now in
    let value = option_map (λ v. v.now) c.args.value in
    given_err c.put_prop.result c.args.self.now.trees.now c.args.self.now.tree c.args.self.now.changes.items (call.DirProp p name value) p (λ f. put_fault f p name value) refl (dir_open p name value) (λ calls. refl) c.put_prop.ensures.refused
