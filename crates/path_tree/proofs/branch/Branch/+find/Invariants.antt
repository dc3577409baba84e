use Rattle.std.proofs.Common.{length}
use Rattle.path_tree.proofs.branch.Branch.+find.Given as goal

abbrev pub decreases-find : goal.decreases-find
decreases-find l = length l.path.now
