use Rattle.std.proofs.Common.{Some}
use Rattle.std.proofs.lemmas.Result.{err_from_is_err_and}
use Rattle.std.specs.Option.{option_copied}
use Rattle.node_base.specs.declared.node.Action.TheVariants.{Add}
use Rattle.node_base.specs.declared.node.NodeKind.TheVariants.{Dir}
use Rattle.delta_editor.specs.declared.call.Call.TheVariants as call
use Rattle.editor_ends.specs.BuildFaults.{begun}
use Rattle.editor_ends.proofs.Shows.{adds_begun, refuses_begun, adds_dir}
use Rattle.editor_ends.proofs.build.BuildEditorEditor.add_dir.Goals as goal

pub returns-in_err-open_or_add-clause-refused : goal.returns-in_err-open_or_add-clause-refused
returns-in_err-open_or_add-clause-refused c =
    let failed = err_from_is_err_and c.from_residual.result c.from_residual.ensures.1 in
    let up = c.args.up.now.path in
    let p = c.args.path.now in
    rw (failed.1, failed.2)
    (refuses_begun c.args.self.now.trees.now c.args.self.now.tree c.args.self.now.changes.items (call.AddDir up p (option_copied c.args.from)) (begun Add (Some Dir) p (option_copied c.args.from)) c.in_err-open_or_add.field-0.0 (adds_dir up p (option_copied c.args.from)) c.in_err-open_or_add.ensures.refused)

pub returns-clause-shown : goal.returns-clause-shown
returns-clause-shown c =
    let up = c.args.up.now.path in
    let p = c.args.path.now in
    let now = c.open_or_add.new.self in
    let kept = c.in_ok-open_or_add.ensures.over in
    let adds = adds_begun c.args.self.now.trees.now c.args.self.now.tree now.tree c.args.self.now.changes.items now.changes.items (call.AddDir up p (option_copied c.args.from)) (begun Add (Some Dir) p (option_copied c.args.from)) (adds_dir up p (option_copied c.args.from)) c.in_ok-open_or_add.ensures.begins in
    λ calls h. rw kept (adds calls h)
