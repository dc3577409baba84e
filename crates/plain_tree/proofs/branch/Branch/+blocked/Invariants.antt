use Rattle.std.proofs.Common.{length}
use Rattle.plain_tree.proofs.branch.Branch.+blocked.Given as goal

abbrev pub decreases-blocked : goal.decreases-blocked
decreases-blocked l = length l.path.now
