use Rattle.std.proofs.Common.{◌≡◌, take}
use Rattle.std.specs.List.{flat_map}
use Rattle.path_tree.specs.Children.{named_in, shown_children}
use Rattle.path_tree.specs.Listed.{shown}
use Rattle.plain_tree.proofs.tree.Tree.children.Given as goal

abbrev pub invariant-loop-entry : goal.invariant-loop-entry
invariant-loop-entry l = shown_children l.found.items ≡ flat_map (named_in l.path) (shown (take l.entry-index l.entry-items))
