use Rattle.std.proofs.Common.{◌≡◌, ◌++◌, drop, take}
use Rattle.std.specs.FinMap.{entries}
use Rattle.path_tree.specs.Joined.{below, under}
use Rattle.path_tree.specs.Listed.{shown, shown_names}
use Rattle.plain_tree.proofs.branch.Branch.+list_into.Given as goal

abbrev pub invariant-loop-name : goal.invariant-loop-name
invariant-loop-name l = l.path.items ≡ take l.name-index l.name-items

-- what is listed, and what is left, are all
abbrev pub invariant-loop-child : goal.invariant-loop-child
invariant-loop-child l = record {
  listed : shown l.out.items ++ under (shown_names l.fn.above.items) (below (drop l.child-index l.child-items)) ≡ shown l.fn.out.items ++ under (shown_names l.fn.above.items) (entries l.self);
  above : shown_names l.above.items ≡ shown_names l.fn.above.items;
}
