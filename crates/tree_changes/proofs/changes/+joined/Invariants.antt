use Rattle.std.proofs.Common.{length}
use Rattle.tree_changes.proofs.changes.+joined.Given as goal

abbrev pub decreases-joined : goal.decreases-joined
decreases-joined l = length l.names.now
