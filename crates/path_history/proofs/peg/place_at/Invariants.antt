use Rattle.path_history.proofs.Pegs.{Seeking}
use Rattle.path_history.proofs.Telling.{ahead}
use Rattle.path_history.proofs.peg.place_at.Given as goal

abbrev pub invariant-loop-next : goal.invariant-loop-next
invariant-loop-next g l = Seeking (g.S.Sets.sets l.sets) l.fn.from l.revision l.next

abbrev pub decreases-loop-next : goal.decreases-loop-next
decreases-loop-next g l = ahead l.next
