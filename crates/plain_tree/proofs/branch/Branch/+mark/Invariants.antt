use Rattle.std.proofs.Common.{length}
use Rattle.plain_tree.proofs.branch.Branch.+mark.Given as goal

abbrev pub decreases-mark : goal.decreases-mark
decreases-mark l = length l.path.now
