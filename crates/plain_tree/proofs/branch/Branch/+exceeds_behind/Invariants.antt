use Rattle.std.proofs.Common.{length}
use Rattle.plain_tree.proofs.branch.Branch.+exceeds_behind.Given as goal

abbrev pub decreases-exceeds_behind : goal.decreases-exceeds_behind
decreases-exceeds_behind l = length l.path.now
