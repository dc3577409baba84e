use Rattle.std.proofs.Common.{Some, None, length, ◌≤◌, arith, sym, subst, ◌∙◌}
use Rattle.std.specs.Prelude.{IsSome}
use Rattle.std.specs.FinMap.{get}
use Rattle.node_base.specs.Tree.{IsDirAt, changed_at, with_given}
use Rattle.node_base.specs.declared.limits.TheConstants.{TEXT_BYTES}
use Rattle.path_tree.specs.Nodes.{HasNodes}
use Rattle.path_tree.specs.Shape.{IsShape}
use Rattle.path_tree.proofs.Altered.{changed_below, changed_as_graft}
use Rattle.path_tree.proofs.Faults.{no_dir_of, there_of}
use Rattle.path_tree.proofs.Fronts.{shape_of, shape-changed}
use Rattle.path_tree.proofs.Kept.{nodes-changed}
use Rattle.path_tree.proofs.tree.Tree.start_text.Goals as goal

pub edit-requires-clause-there : goal.edit-requires-clause-there
edit-requires-clause-there c = subst (λ p. IsSome (get c.args.self.now p)) (sym c.names.ensures.names) (there_of (get c.args.self.now) c.args.path.now _ (sym c.text_fault.ensures ∙ c.in_default.is))

pub edit-requires-clause-shape : goal.edit-requires-clause-shape
edit-requires-clause-shape c =
    let p = c.names.result.now in
    let text = c.in_ok-text.text in
    subst IsShape (changed_as_graft (get c.args.self.now) p (with_given (Some text) None))
    (shape-changed (get c.args.self.now) p (Some text) None
    (λ t d. no_dir_of (get c.args.self.now) c.args.path.now (sym c.text_fault.ensures ∙ c.in_default.is) (subst (IsDirAt (get c.args.self.now)) c.names.ensures.names d))
    (shape_of c.args.self.now c.limits.ensures.tree))

pub edit-requires-clause-nodes : goal.edit-requires-clause-nodes
edit-requires-clause-nodes c =
    let p = c.names.result.now in
    let text = c.in_ok-text.text in
    subst HasNodes (changed_as_graft (get c.args.self.now) p (with_given (Some text) None))
    (nodes-changed (get c.args.self.now) p (Some text) None (subst (λ t. length t ≤ TEXT_BYTES) (sym c.in_ok-text.ensures) (omega arith)) tt c.limits.ensures.kept)

pub returns-clause-ok : goal.returns-clause-ok
returns-clause-ok c = λ q.
    c.in_ok-edit.ensures.ok q
    ∙ changed_below (get c.args.self.now) c.names.result.now (with_given (Some c.in_ok-text.text) None) q
    ∙ (λ i. changed_at (get c.args.self.now) (c.names.ensures.names i) (with_given (Some (c.in_ok-text.ensures i)) None) q)
