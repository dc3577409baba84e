use Rattle.std.proofs.Common.{◌≡◌, Option, sym, ap, subst, ◌∙◌}
use Rattle.std.specs.Prelude.{IsSome}
use Rattle.std.specs.FinMap.{get}
use Rattle.node_base.specs.Path.{Path}
use Rattle.node_base.specs.Tree.{HasFronts, alone, grafted}
use Rattle.node_base.specs.declared.node.Node.{Node}
use Rattle.path_tree.proofs.Edits.{get-leaf, on_ok}
use Rattle.path_tree.proofs.Fronts.{fronts-alone, alone_fits}
use Rattle.plain_tree.proofs.tree.Tree.put_node.Goals as goal
use Rattle.plain_tree.proofs.tree.Tree.put_node.Goals.{After-leaf}

is_alone : (c : After-leaf) → ◌≡◌ {A = Path → Option Node} (get c.leaf.result) (alone c.args.node)
is_alone c = λ i q. (ap (λ m. get m q) c.leaf.ensures ∙ get-leaf c.args.node q) i

pub graft-requires-clause-fronts : goal.graft-requires-clause-fronts
graft-requires-clause-fronts c = subst HasFronts (sym (is_alone c)) (fronts-alone c.args.node)

pub graft-requires-clause-small : goal.graft-requires-clause-small
graft-requires-clause-small c = λ r some.
    alone_fits c.args.node c.args.path.now c.names.ensures.small r (subst (λ (f : Path → Option Node). IsSome (f r)) (is_alone c) some)

pub returns-clause-ok : goal.returns-clause-ok
returns-clause-ok c = on_ok c.graft.result _ _ (λ h q. h q ∙ ap (λ (g : Path → Option Node). grafted (get c.args.self.now) c.args.path.now g q) (is_alone (goal.at.returns-clause-ok c).After-leaf)) c.graft.ensures.ok
