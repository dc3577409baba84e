use Rattle.std.proofs.Common.{◌≡◌, Option, sym, ap, subst, ◌∙◌}
use Rattle.std.specs.Prelude.{IsSome, IfSome}
use Rattle.std.specs.FinMap.{get}
use Rattle.node_base.specs.Path.{Path}
use Rattle.node_base.specs.Tree.{HasFronts, alone, grafted, marked}
use Rattle.node_base.specs.declared.node.Node.{Node}
use Rattle.path_tree.proofs.Edits.{get-leaf, on_ok}
use Rattle.path_tree.proofs.Fronts.{fronts-alone, alone_fits}
use Rattle.path_tree.specs.Nodes.{IsNode}
use Rattle.path_tree.proofs.Kept.{alone_paths, alone_nodes}
use Rattle.path_tree.proofs.tree.Tree.put_node.Goals as goal
use Rattle.path_tree.proofs.tree.Tree.put_node.Goals.{After-leaf}

is_alone : (c : After-leaf) → ◌≡◌ {A = Path → Option Node} (get c.leaf.result) (alone c.args.node)
is_alone c = λ i q. (ap (λ m. get m q) c.leaf.ensures ∙ get-leaf c.args.node q) i

pub graft-requires-clause-fronts : goal.graft-requires-clause-fronts
graft-requires-clause-fronts c = subst HasFronts (sym (is_alone c)) (fronts-alone c.args.node)

pub graft-requires-clause-small : goal.graft-requires-clause-small
graft-requires-clause-small c = λ r some.
    alone_fits c.args.node c.args.path.now c.names.ensures.small r (subst (λ (f : Path → Option Node). IsSome (f r)) (is_alone c) some)

pub graft-requires-clause-paths : goal.graft-requires-clause-paths
graft-requires-clause-paths c = λ r some.
    alone_paths c.args.node c.args.path.now c.path_limits.ensures r (subst (λ (f : Path → Option Node). IsSome (f r)) (is_alone c) some)

pub graft-requires-clause-nodes : goal.graft-requires-clause-nodes
graft-requires-clause-nodes c = λ r.
    subst (λ (f : Path → Option Node). IfSome (f r) IsNode) (sym (is_alone c)) (alone_nodes c.args.node c.node_limits.ensures r)

pub returns-clause-ok : goal.returns-clause-ok
returns-clause-ok c = on_ok c.graft.result _ _ (λ h q. h q ∙ ap (λ (g : Path → Option Node). grafted (marked (get c.args.self.now) c.args.path.now c.args.node.changed) c.args.path.now g q) (is_alone (goal.at.returns-clause-ok c).After-leaf)) c.graft.ensures.ok
