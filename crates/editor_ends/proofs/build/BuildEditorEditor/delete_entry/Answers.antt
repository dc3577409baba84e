use Rattle.std.proofs.Common.{None, subst}
use Rattle.std.specs.Prelude.{OnOk, IfErr}
use Rattle.std.specs.FinMap as map
use Rattle.node_base.specs.declared.node.Action.TheVariants.{Delete}
use Rattle.dump_load.specs.declared.change.Change.{Change}
use Rattle.delta_editor.specs.declared.call.Call.TheVariants as call
use Rattle.editor_ends.specs.BuildFaults.{begun, begin_fault}
use Rattle.editor_ends.specs.Built.{Made, Begins, IsFaultOr, is_late_in}
use Rattle.editor_ends.proofs.Shows.{deletes}
use Rattle.editor_ends.proofs.Methods.{begun_ok, begun_err}
use Rattle.editor_ends.proofs.build.BuildEditorEditor.delete_entry.Goals as goal

pub returns-clause-shown : goal.returns-clause-shown
returns-clause-shown c =
    let up = c.args.up.now.path in
    let p = c.args.path.now in
    let trees = c.args.self.now.trees.now in
    let tree = c.args.self.now.tree in
    let s = c.args.self.now.changes.items in
    begun_ok c.delete.result trees tree c.delete.new.tree s c.delete.new.changes.items (call.DeleteEntry up p c.args.base) (begun Delete None p None) (deletes up p c.args.base)
    (subst (λ (x : Change). OnOk c.delete.result (Made trees tree s → Begins trees tree s c.delete.new.tree c.delete.new.changes.items x)) c.in_ok-change.ensures.begun c.delete.ensures.begins)

pub returns-clause-refused : goal.returns-clause-refused
returns-clause-refused c =
    let up = c.args.up.now.path in
    let p = c.args.path.now in
    let trees = c.args.self.now.trees.now in
    let tree = c.args.self.now.tree in
    let s = c.args.self.now.changes.items in
    begun_err c.delete.result trees tree s (call.DeleteEntry up p c.args.base) (begun Delete None p None) (deletes up p c.args.base)
    (subst (λ (x : Change). IfErr c.delete.result (λ e. Made trees tree s → IsFaultOr (begin_fault trees (map.get tree) (is_late_in s x) x) e)) c.in_ok-change.ensures.begun c.delete.ensures.refused)
