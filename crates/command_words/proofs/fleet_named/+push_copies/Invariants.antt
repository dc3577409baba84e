use Rattle.std.proofs.Common.{length}
use Rattle.command_words.proofs.fleet_named.+push_copies.Given as goal

abbrev pub decreases-push_copies : goal.decreases-push_copies
decreases-push_copies l = length l.names.now
