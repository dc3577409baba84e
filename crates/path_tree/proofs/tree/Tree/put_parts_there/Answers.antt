use Rattle.std.proofs.Common.{◌≡◌, ℕ, List, Option, sym, subst, ◌∙◌}
use Rattle.std.specs.FinMap.{get}
use Rattle.node_base.specs.Path.{Path}
use Rattle.node_base.specs.Props.{PropMap}
use Rattle.node_base.specs.declared.node.Node.{Node}
use Rattle.node_base.specs.Tree.{IsTree, changed_at, marked, with_given}
use Rattle.path_tree.specs.declared.edit.Edit.TheVariants.{Parts}
use Rattle.path_tree.specs.Edits.{edit_at}
use Rattle.path_tree.specs.Nodes.{HasNodes, IsSmallTree}
use Rattle.path_tree.specs.Shape.{IsShape}
use Rattle.path_tree.proofs.Altered.{changed_below}
use Rattle.path_tree.proofs.Alters.{dir_before}
use Rattle.path_tree.proofs.Edits.{on_ok}
use Rattle.path_tree.proofs.Fronts.{shape_of, shape-changed, shape-marked}
use Rattle.path_tree.proofs.Kept.{nodes-changed, nodes-marked}
use Rattle.path_tree.proofs.tree.Tree.put_parts_there.Goals as goal

-- the edit is one of the node at the path
changes : (f : Path → Option Node) (p : Path) (text : Option (List ℕ)) (props : Option PropMap) → ◌≡◌ {A = Path → Option Node} (changed_at f p (with_given text props)) (edit_at (Parts text props) f p)
changes f p text props = λ i q. sym (changed_below f p (with_given text props) q) i

pub alter-requires-clause-shape : goal.alter-requires-clause-shape
alter-requires-clause-shape c =
    let tree : IsTree c.args.self.now = (subst IsSmallTree c.self.view_is c.self.invariant).tree in
    let p = c.args.path.now in
    let numbered = marked (get c.args.self.now) p c.args.number in
    subst IsShape (changes numbered p c.args.text c.args.props)
    (shape-changed numbered p c.args.text c.args.props (λ t d. c.requires.text t (dir_before (get c.args.self.now) p c.args.number p d)) (shape-marked (get c.args.self.now) p c.args.number (shape_of c.args.self.now tree)))

pub alter-requires-clause-nodes : goal.alter-requires-clause-nodes
alter-requires-clause-nodes c =
    let small : IsSmallTree c.args.self.now = subst IsSmallTree c.self.view_is c.self.invariant in
    let p = c.args.path.now in
    let numbered = marked (get c.args.self.now) p c.args.number in
    subst HasNodes (changes numbered p c.args.text c.args.props)
    (nodes-changed numbered p c.args.text c.args.props c.text_limits.ensures c.props_limits.ensures (nodes-marked (get c.args.self.now) p c.args.number small.kept))

pub returns-clause-ok : goal.returns-clause-ok
returns-clause-ok c =
    let p = c.args.path.now in
    on_ok c.alter.result _ _ (λ h q. h q ∙ (λ i. sym (changes (marked (get c.args.self.now) p c.args.number) p c.args.text c.args.props) i q)) c.alter.ensures.ok
