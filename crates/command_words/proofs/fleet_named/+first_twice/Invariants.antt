use Rattle.std.proofs.Common.{length}
use Rattle.command_words.proofs.fleet_named.+first_twice.Given as goal

abbrev pub decreases-first_twice : goal.decreases-first_twice
decreases-first_twice l = length l.names.now
