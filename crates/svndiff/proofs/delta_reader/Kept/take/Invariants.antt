use Rattle.std.proofs.Common.{◌≡◌, ◌≤◌, ℕ, List, [], length}
use Rattle.svndiff.specs.DeltaStreams.{reading, Reads, texts_in}
use Rattle.svndiff.proofs.delta_reader.Kept.take.Given as goal

abbrev pub invariant-loop-rest : goal.invariant-loop-rest
invariant-loop-rest l = (length l.rest ≤ length l.piece) × (l.self.made ≡ []) × ((text : List ℕ) → reading l.base (Reads text l.fn.self.delta) l.piece ≡ reading l.base (Reads text l.self.delta) l.rest) × (texts_in l.base l.fn.self.delta l.piece ≡ texts_in l.base l.self.delta l.rest)

abbrev pub decreases-loop-rest : goal.decreases-loop-rest
decreases-loop-rest l = length l.rest
