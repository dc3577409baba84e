use Rattle.std.proofs.Common.{◌+◌, ◌*◌, length}
use Rattle.std.specs.FinMap.{len}
use Rattle.path_tree.specs.Joined.{below}
use Rattle.path_tree.specs.Rows.{in_row}
use Rattle.path_tree.proofs.+visits.Given as goal

abbrev pub decreases-branch::Branch::visit_into : goal.decreases-branch::Branch::visit_into
decreases-branch::Branch::visit_into g l = 3 * len l.self.now

abbrev pub decreases-row::visit_child : goal.decreases-row::visit_child
decreases-row::visit_child g l = 3 * len l.child.now.1 + 1

abbrev pub decreases-row::visit_row : goal.decreases-row::visit_row
decreases-row::visit_row g l = 3 * length (below (in_row l.row.now)) + 2
