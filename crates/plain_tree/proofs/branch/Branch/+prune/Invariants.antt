use Rattle.std.proofs.Common.{length}
use Rattle.plain_tree.proofs.branch.Branch.+prune.Given as goal

abbrev pub decreases-prune : goal.decreases-prune
decreases-prune l = length l.above.now
