use Rattle.std.proofs.Common.{◌≡◌}
use Rattle.path_history.proofs.Stretching.{Backing}
use Rattle.path_history.proofs.stretch.stretch_of.Given as goal

abbrev pub invariant-loop-number : goal.invariant-loop-number
invariant-loop-number g l = (l.path ≡ l.fn.from.path) × Backing (g.S.Sets.sets l.sets) l.fn.from l.number

abbrev pub decreases-loop-number : goal.decreases-loop-number
decreases-loop-number g l = l.number
