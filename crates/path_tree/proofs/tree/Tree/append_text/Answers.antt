use Rattle.std.proofs.Common.{sym, subst, ◌∙◌}
use Rattle.std.specs.Prelude.{IsSome}
use Rattle.std.specs.FinMap.{get}
use Rattle.node_base.specs.NodeEdits.{with_piece}
use Rattle.node_base.specs.Tree.{changed_at}
use Rattle.path_tree.specs.Calls.{text_fault}
use Rattle.path_tree.specs.Nodes.{HasNodes}
use Rattle.path_tree.specs.Shape.{IsShape}
use Rattle.path_tree.proofs.Altered.{changed_below, changed_as_graft}
use Rattle.path_tree.proofs.Faults.{first_none, there_of}
use Rattle.path_tree.proofs.Fronts.{shape_of, shape-piece}
use Rattle.path_tree.proofs.Kept.{nodes-piece}
use Rattle.path_tree.proofs.tree.Tree.append_text.Goals as goal

pub edit-requires-clause-there : goal.edit-requires-clause-there
edit-requires-clause-there c =
    let none = first_none (text_fault (get c.args.self.now) c.args.path.now) _ (sym c.piece_fault.ensures ∙ c.in_default.is) in
    subst (λ p. IsSome (get c.args.self.now p)) (sym c.names.ensures.names) (there_of (get c.args.self.now) c.args.path.now _ none)

pub edit-requires-clause-shape : goal.edit-requires-clause-shape
edit-requires-clause-shape c =
    let p = c.names.result.now in
    let bytes = c.in_ok-piece.piece.items in
    subst IsShape (changed_as_graft (get c.args.self.now) p (with_piece bytes)) (shape-piece (get c.args.self.now) p bytes (shape_of c.args.self.now c.limits.ensures.tree))

pub edit-requires-clause-nodes : goal.edit-requires-clause-nodes
edit-requires-clause-nodes c =
    let bytes = c.in_ok-piece.piece.items in
    let kept = nodes-piece (get c.args.self.now) c.args.path.now c.args.piece.now (sym c.piece_fault.ensures ∙ c.in_default.is) c.limits.ensures.kept in
    subst HasNodes (changed_as_graft (get c.args.self.now) c.names.result.now (with_piece bytes))
    (subst HasNodes (λ i. changed_at (get c.args.self.now) (sym c.names.ensures.names i) (with_piece (sym c.in_ok-piece.ensures.items i))) kept)

pub returns-clause-ok : goal.returns-clause-ok
returns-clause-ok c = λ q.
    let bytes = c.in_ok-piece.piece.items in
    c.in_ok-edit.ensures.ok q
    ∙ changed_below (get c.args.self.now) c.names.result.now (with_piece bytes) q
    ∙ (λ i. changed_at (get c.args.self.now) (c.names.ensures.names i) (with_piece (c.in_ok-piece.ensures.items i)) q)
