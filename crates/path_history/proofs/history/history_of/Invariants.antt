use Rattle.path_history.proofs.Telling.{Going, ahead}
use Rattle.path_history.proofs.history.history_of.Given as goal

abbrev pub invariant-loop-next : goal.invariant-loop-next
invariant-loop-next g l = Going (g.S.Sets.sets l.sets) l.asked l.fn.from l.told.items l.next

abbrev pub decreases-loop-next : goal.decreases-loop-next
decreases-loop-next g l = ahead l.next
