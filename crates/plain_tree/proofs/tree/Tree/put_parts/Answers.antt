use Rattle.std.proofs.Common.{subst}
use Rattle.std.specs.FinMap.{get}
use Rattle.node_base.specs.Tree.{IsDirAt, changed_at, with_given}
use Rattle.path_tree.proofs.Fronts.{tree_of, shape_of, shape-changed}
use Rattle.plain_tree.proofs.tree.Tree.put_parts.Goals as goal

pub invariant_of-self : goal.invariant_of-self
invariant_of-self c =
    let m = c.self.inside.root in
    tree_of c.put_parts.new.self (changed_at (get m) c.args.path.now (with_given c.args.text c.args.props)) c.put_parts.ensures
    (shape-changed (get m) c.args.path.now c.args.text c.args.props (λ some dir. c.requires some (subst (λ z. IsDirAt (get z) c.args.path.now) c.self.view_is dir)) (shape_of m c.self.invariant))
