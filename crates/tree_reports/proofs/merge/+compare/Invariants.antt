use Rattle.std.proofs.Common.{length}
use Rattle.tree_reports.proofs.merge.+compare.Given as goal

abbrev pub decreases-compare : goal.decreases-compare
decreases-compare l = length l.left.now
