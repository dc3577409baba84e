use Rattle.std.proofs.Common.{◌++◌, ◌∷◌, [], None}
use Rattle.std.specs.FinMap.{get}
use Rattle.node_base.specs.Tree.{grafted}
use Rattle.path_tree.proofs.Fronts.{tree_of, shape_of, shape-pruned}
use Rattle.plain_tree.proofs.tree.Tree.prune.Goals as goal

pub invariant_of-self : goal.invariant_of-self
invariant_of-self c =
    let m = c.self.inside.root in
    tree_of c.prune.new.self (grafted (get m) (c.in-Some.above.now ++ c.in-Some.name.now ∷ []) (λ _. None)) c.prune.ensures
    (shape-pruned (get m) c.in-Some.above.now c.in-Some.name.now (shape_of m c.self.invariant))
