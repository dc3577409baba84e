use Rattle.std.proofs.Common.{take}
use Rattle.std.specs.List.{AllByRecursion}
use Rattle.path_tree.specs.Nodes.{IsSmallTree}
use Rattle.path_tree.proofs.limits.trees_limits.Given as goal

abbrev pub invariant-loop-tree : goal.invariant-loop-tree
invariant-loop-tree l = AllByRecursion IsSmallTree (take l.tree-index l.trees)
