use Rattle.std.specs.FinMap.{get}
use Rattle.node_base.specs.Tree.{marked}
use Rattle.path_tree.proofs.Fronts.{tree_of, shape_of, shape-marked}
use Rattle.plain_tree.proofs.tree.Tree.mark.Goals as goal

pub invariant_of-self : goal.invariant_of-self
invariant_of-self c =
    let m = c.self.inside.root in
    tree_of c.mark.new.self (marked (get m) c.args.path.now c.args.number) c.mark.ensures (shape-marked (get m) c.args.path.now c.args.number (shape_of m c.self.invariant))
