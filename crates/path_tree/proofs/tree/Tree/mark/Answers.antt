use Rattle.std.proofs.Common.{ap, subst, ◌∙◌}
use Rattle.std.specs.Arc.{arc_value}
use Rattle.std.specs.FinMap.{get}
use Rattle.node_base.specs.Tree.{marked}
use Rattle.path_tree.specs.Nodes.{IsSmallTree}
use Rattle.path_tree.proofs.Fronts.{shape_of, shape-marked}
use Rattle.path_tree.proofs.Kept.{nodes-marked, small_of}
use Rattle.path_tree.proofs.tree.Tree.mark.Goals as goal

pub invariant_of-self-2 : goal.invariant_of-self-2
invariant_of-self-2 c =
    let small : IsSmallTree c.args.self.now = subst IsSmallTree c.self.view_is c.self.invariant in
    let before = get c.args.self.now in
    small_of (arc_value c.in_ok-self-inside.field-0) (marked before c.args.path.now c.args.number)
    (λ q.
    ap (λ m. get m q) c.in_ok-self-inside.ensures.ok
    ∙ c.in_ok-mark.ensures.ok q
    ∙ ap (λ m. marked (get m) c.args.path.now c.args.number q) (c.in_ok-root.ensures ∙ c.deref.ensures ∙ c.self.view_is))
    (shape-marked before c.args.path.now c.args.number (shape_of c.args.self.now small.tree)) (nodes-marked before c.args.path.now c.args.number small.kept)
