use Rattle.std.proofs.Common.{length}
use Rattle.command_words.proofs.fleet_named.+stands_in.Given as goal

abbrev pub decreases-stands_in : goal.decreases-stands_in
decreases-stands_in l = length l.names.now
