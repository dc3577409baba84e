use Rattle.std.proofs.Common.{◌≡◌, ◌+◌, ◌*◌, length, take}
use Rattle.std.specs.FinMap.{len}
use Rattle.path_tree.specs.Joined.{below}
use Rattle.path_tree.specs.Rows.{in_row}
use Rattle.path_tree.proofs.+lists.Given as goal

abbrev pub decreases-branch::Branch::list_into : goal.decreases-branch::Branch::list_into
decreases-branch::Branch::list_into l = 3 * len l.self.now

abbrev pub decreases-row::list_child : goal.decreases-row::list_child
decreases-row::list_child l = 3 * len l.child.now.1 + 1

abbrev pub decreases-row::list_row : goal.decreases-row::list_row
decreases-row::list_row l = 3 * length (below (in_row l.row.now)) + 2

abbrev pub invariant-branch::Branch::list_into-loop-name : goal.invariant-branch::Branch::list_into-loop-name
invariant-branch::Branch::list_into-loop-name l = l.path.items ≡ take l.name-index l.name-items
