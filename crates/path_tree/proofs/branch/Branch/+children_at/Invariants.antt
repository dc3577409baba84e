use Rattle.std.proofs.Common.{length}
use Rattle.path_tree.proofs.branch.Branch.+children_at.Given as goal

abbrev pub decreases-children_at : goal.decreases-children_at
decreases-children_at l = length l.path.now
