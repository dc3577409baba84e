use Rattle.std.proofs.Common.{length}
use Rattle.tree_reports.proofs.copy.+mark_back.Given as goal

abbrev pub decreases-mark_back : goal.decreases-mark_back
decreases-mark_back l = length l.path.now
