use Rattle.std.proofs.Common.{length}
use Rattle.ra_item_tests.proofs.window_tests.take.Given as goal

abbrev pub decreases-loop-rest : goal.decreases-loop-rest
decreases-loop-rest g l = length l.rest
