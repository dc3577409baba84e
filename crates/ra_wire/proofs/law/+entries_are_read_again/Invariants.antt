use Rattle.std.proofs.Common.{length}
use Rattle.ra_wire.proofs.law.+entries_are_read_again.Given as goal

abbrev pub decreases-entries_are_read_again : goal.decreases-entries_are_read_again
decreases-entries_are_read_again l = length l.entries.now
