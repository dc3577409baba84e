use Rattle.path_tree.proofs.Kept.{small_push}
use Rattle.path_tree.proofs.limits.trees_limits.Goals as goal

pub loop-tree-preserved : goal.loop-tree-preserved
loop-tree-preserved c = small_push c.args.trees.now c.loop-tree.tree-index c.tree-item.result _ c.loop-tree-test.true c.tree-item.is c.loop-tree.invariant c.limits.ensures
