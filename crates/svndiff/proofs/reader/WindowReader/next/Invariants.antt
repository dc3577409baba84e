use Rattle.std.proofs.Common.{◌≡◌, ◌≤◌, ◌-◌, ℕ, List, length, drop}
use Rattle.svndiff.specs.Streams.{reading, pieces_in, Reads}
use Rattle.svndiff.proofs.reader.WindowReader.next.Given as goal

abbrev pub invariant-loop-at : goal.invariant-loop-at
invariant-loop-at l = (l.at ≤ length l.piece) × ((text : List ℕ) → reading (Reads text l.fn.self) l.piece ≡ reading (Reads text l.self) (drop l.at l.piece)) × (pieces_in l.fn.self l.piece ≡ pieces_in l.self (drop l.at l.piece))

abbrev pub decreases-loop-at : goal.decreases-loop-at
decreases-loop-at l = length l.piece - l.at
