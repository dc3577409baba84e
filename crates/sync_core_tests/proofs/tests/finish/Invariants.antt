use Rattle.sync_core.specs.Measures.{left}
use Rattle.sync_core_tests.proofs.tests.finish.Given as goal

abbrev pub decreases-loop-answer : goal.decreases-loop-answer
decreases-loop-answer g l = left l.job
