use Rattle.std.proofs.Common.{length}
use Rattle.ra_log.proofs.version.+write_gone.Given as goal

abbrev pub decreases-write_gone : goal.decreases-write_gone
decreases-write_gone g l = length l.entries.now
