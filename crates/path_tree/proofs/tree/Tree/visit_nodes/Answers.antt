use Rattle.std.proofs.Common.{◌++◌, ◌∙◌}
use Rattle.std.specs.List.{flat_map}
use Rattle.std.specs.FinMap.{entries}
use Rattle.path_tree.specs.Visited.{texts}
use Rattle.path_tree.proofs.Edits.{on_ok}
use Rattle.path_tree.proofs.tree.Tree.visit_nodes.Goals as goal

pub returns : goal.returns
returns g c =
    let out = g.V.Visitor.said c.args.visitor.now in
    let line = g.V.Visitor.line in
    on_ok c.visit_into.result _ _
    (λ h. h ∙ (λ i. out ++ flat_map line (texts (c.new-above.ensures.items i) (entries ((c.deref.ensures ∙ c.self.view_is) i)))))
    c.visit_into.ensures.said
