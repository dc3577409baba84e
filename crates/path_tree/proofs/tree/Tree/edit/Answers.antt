use Rattle.std.proofs.Common.{Option, sym, ap, subst, ◌∙◌}
use Rattle.std.specs.FinMap.{get}
use Rattle.node_base.specs.Path.{Path}
use Rattle.node_base.specs.declared.node.Node.{Node}
use Rattle.path_tree.specs.Edits.{edit_at}
use Rattle.path_tree.specs.Nodes.{HasNodes}
use Rattle.path_tree.specs.Shape.{IsShape}
use Rattle.path_tree.proofs.Alters.{not_marked}
use Rattle.path_tree.proofs.Edits.{on_ok}
use Rattle.path_tree.proofs.tree.Tree.edit.Goals as goal

pub alter-requires-clause-shape : goal.alter-requires-clause-shape
alter-requires-clause-shape c = subst (λ (f : Path → Option Node). IsShape (edit_at c.args.edit.now f c.args.path.now)) (sym (not_marked (get c.args.self.now) c.args.path.now)) c.requires.shape

pub alter-requires-clause-nodes : goal.alter-requires-clause-nodes
alter-requires-clause-nodes c = subst (λ (f : Path → Option Node). HasNodes (edit_at c.args.edit.now f c.args.path.now)) (sym (not_marked (get c.args.self.now) c.args.path.now)) c.requires.nodes

pub returns-clause-ok : goal.returns-clause-ok
returns-clause-ok c =
    on_ok c.alter.result _ _ (λ h q. h q ∙ ap (λ (f : Path → Option Node). edit_at c.args.edit.now f c.args.path.now q) (not_marked (get c.args.self.now) c.args.path.now)) c.alter.ensures.ok
