use Rattle.std.proofs.Common.{◌≡◌, ◌++◌, [], length}
use Rattle.std.specs.List.{flat_map}
use Rattle.path_tree.specs.Children.{children_of}
use Rattle.path_tree.specs.Listed.{shown}
use Rattle.tree_reports.specs.Depths.{root_of, picked}
use Rattle.tree_reports.proofs.depth.list_shallow.Given as goal

abbrev pub invariant-loop-children : goal.invariant-loop-children
invariant-loop-children l = root_of l.tree ++ flat_map (picked l.depth) (children_of [] l.tree) ≡ shown l.found.items ++ flat_map (picked l.depth) l.children

abbrev pub decreases-loop-children : goal.decreases-loop-children
decreases-loop-children l = length l.children
