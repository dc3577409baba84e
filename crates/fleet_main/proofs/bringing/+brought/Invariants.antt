use Rattle.std.proofs.Common.{length}
use Rattle.fleet_main.proofs.bringing.+brought.Given as goal

abbrev pub decreases-brought : goal.decreases-brought
decreases-brought g l = length l.names.now
