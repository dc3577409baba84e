use Rattle.std.proofs.Common.{length}
use Rattle.path_history.proofs.lookup.+governing_of.Given as goal

abbrev pub decreases-governing_of : goal.decreases-governing_of
decreases-governing_of l = length l.path.now
