use Rattle.std.proofs.Common.{length}
use Rattle.ra_item_tests.proofs.delta_tests.take.Given as goal

abbrev pub decreases-loop-rest : goal.decreases-loop-rest
decreases-loop-rest g l = length l.rest
