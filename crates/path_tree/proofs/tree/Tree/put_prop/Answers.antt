use Rattle.std.proofs.Common.{sym, ap, subst, ◌∙◌}
use Rattle.std.specs.Prelude.{IsSome}
use Rattle.std.specs.FinMap.{get}
use Rattle.node_base.specs.NodeEdits.{with_prop}
use Rattle.node_base.specs.Tree.{changed_at}
use Rattle.path_tree.specs.NodeCalls.{prop_fault}
use Rattle.path_tree.specs.Nodes.{HasNodes}
use Rattle.path_tree.specs.Shape.{IsShape}
use Rattle.path_tree.proofs.Altered.{changed_below, changed_as_graft}
use Rattle.path_tree.proofs.Faults.{there_of}
use Rattle.path_tree.proofs.Fronts.{shape_of, shape-prop}
use Rattle.path_tree.proofs.Kept.{nodes-prop}
use Rattle.path_tree.proofs.tree.Tree.put_prop.Goals as goal

pub edit-requires-clause-there : goal.edit-requires-clause-there
edit-requires-clause-there c = subst (λ p. IsSome (get c.args.self.now p)) (sym c.names.ensures.names) (there_of (get c.args.self.now) c.args.path.now _ (sym c.prop_fault.ensures ∙ c.in_default.is))

pub edit-requires-clause-shape : goal.edit-requires-clause-shape
edit-requires-clause-shape c =
    let p = c.names.result.now in
    let g = with_prop c.args.name c.args.value in
    subst IsShape (changed_as_graft (get c.args.self.now) p g) (shape-prop (get c.args.self.now) p c.args.name c.args.value (shape_of c.args.self.now c.limits.ensures.tree))

pub edit-requires-clause-nodes : goal.edit-requires-clause-nodes
edit-requires-clause-nodes c =
    let g = with_prop c.args.name c.args.value in
    let kept =
    nodes-prop (get c.args.self.now) c.args.path.now c.args.name c.args.value c.name_limits.ensures.rule c.name_limits.ensures.small c.value_limits.ensures
    (ap (prop_fault (get c.args.self.now) c.args.path.now c.args.name) (sym c.is_some.ensures) ∙ sym c.prop_fault.ensures ∙ c.in_default.is)
    c.limits.ensures.kept in
    subst HasNodes (changed_as_graft (get c.args.self.now) c.names.result.now g) (subst (λ p. HasNodes (changed_at (get c.args.self.now) p g)) (sym c.names.ensures.names) kept)

pub returns-clause-ok : goal.returns-clause-ok
returns-clause-ok c = λ q.
    let g = with_prop c.args.name c.args.value in
    c.in_ok-edit.ensures.ok q ∙ changed_below (get c.args.self.now) c.names.result.now g q ∙ ap (λ p. changed_at (get c.args.self.now) p g q) c.names.ensures.names
