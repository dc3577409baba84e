use Rattle.std.proofs.Common.{◌≡◌, ℕ, List, ◌++◌, length}
use Rattle.svndiff.specs.DeltaStreams.{reading, Reads}
use Rattle.ra_edit.proofs.delta_edit.Difference.take.Given as goal

abbrev pub invariant-loop-rest : goal.invariant-loop-rest
invariant-loop-rest l =
    (l.self.base ≡ l.fn.self.base)
    × ((text : List ℕ) → reading l.fn.self.base (Reads text l.fn.self.reader.delta) l.fn.bytes ≡ reading l.fn.self.base (Reads (text ++ l.made.items) l.self.reader.delta) l.rest)

abbrev pub decreases-loop-rest : goal.decreases-loop-rest
decreases-loop-rest l = length l.rest
