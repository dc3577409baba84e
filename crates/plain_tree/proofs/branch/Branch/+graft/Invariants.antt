use Rattle.std.proofs.Common.{length}
use Rattle.plain_tree.proofs.branch.Branch.+graft.Given as goal

abbrev pub decreases-graft : goal.decreases-graft
decreases-graft l = length l.above.now
