use Rattle.std.proofs.Common.{length}
use Rattle.browse_wire.proofs.url.+rest_after.Given as goal

abbrev pub decreases-rest_after : goal.decreases-rest_after
decreases-rest_after l = length l.front.now
