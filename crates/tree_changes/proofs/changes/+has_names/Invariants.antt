use Rattle.std.proofs.Common.{length}
use Rattle.tree_changes.proofs.changes.+has_names.Given as goal

abbrev pub decreases-has_names : goal.decreases-has_names
decreases-has_names l = length l.path.now
