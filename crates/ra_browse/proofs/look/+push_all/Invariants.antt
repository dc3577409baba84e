use Rattle.std.proofs.Common.{length}
use Rattle.ra_browse.proofs.look.+push_all.Given as goal

abbrev pub decreases-push_all : goal.decreases-push_all
decreases-push_all l = length l.more.now
