use Rattle.std.proofs.Common.{Some, None, subst}
use Rattle.std.proofs.lemmas.Result.{err_from_is_err_and}
use Rattle.std.specs.FinMap as map
use Rattle.node_base.specs.Path.{Path}
use Rattle.node_base.specs.declared.node.Action.TheVariants.{Modify}
use Rattle.node_base.specs.declared.node.NodeKind.TheVariants.{Dir}
use Rattle.editor_ends.specs.BuildFaults.{begun, begin_fault}
use Rattle.editor_ends.specs.Built.{Made, Begins, IsFaultOr, is_late_in}
use Rattle.editor_ends.proofs.Shows.{adds_root, refuses_root}
use Rattle.editor_ends.proofs.build.BuildEditorEditor.open_root.Goals as goal

pub returns-in_err-open_or_add-clause-refused : goal.returns-in_err-open_or_add-clause-refused
returns-in_err-open_or_add-clause-refused c =
    let failed = err_from_is_err_and c.from_residual.result c.from_residual.ensures.1 in
    let trees = c.args.self.now.trees.now in
    let tree = c.args.self.now.tree in
    let s = c.args.self.now.changes.items in
    let e = c.in_err-open_or_add.field-0.0 in
    rw (failed.1, failed.2)
    (refuses_root trees tree s c.args.base e
    (subst (λ (p : Path). Made trees tree s → IsFaultOr (begin_fault trees (map.get tree) (is_late_in s (begun Modify (Some Dir) p None)) (begun Modify (Some Dir) p None)) e) c.root-root.ensures c.in_err-open_or_add.ensures.refused))

pub returns-clause-shown : goal.returns-clause-shown
returns-clause-shown c =
    let trees = c.args.self.now.trees.now in
    let tree = c.args.self.now.tree in
    let s = c.args.self.now.changes.items in
    let now = c.open_or_add.new.self in
    let kept = c.in_ok-open_or_add.ensures.over in
    let adds = adds_root trees tree now.tree s now.changes.items c.args.base
    (subst (λ (p : Path). Made trees tree s → Begins trees tree s now.tree now.changes.items (begun Modify (Some Dir) p None)) c.root-root.ensures c.in_ok-open_or_add.ensures.begins) in
    λ calls h. rw kept (adds calls h)
