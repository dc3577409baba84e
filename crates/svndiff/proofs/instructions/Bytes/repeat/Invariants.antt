use Rattle.std.proofs.Common.{◌≡◌}
use Rattle.svndiff.specs.Making.{repeat}
use Rattle.svndiff.proofs.instructions.Bytes.repeat.Given as goal

abbrev pub invariant-loop-left : goal.invariant-loop-left
invariant-loop-left l = repeat l.back l.left l.self ≡ repeat l.back l.n l.fn.self

abbrev pub decreases-loop-left : goal.decreases-loop-left
decreases-loop-left l = l.left
