use Rattle.std.proofs.Common.{◌≡◌, ◌≤◌, ◌-◌, length, take}
use Rattle.ra_item.specs.Streams.{reading, Reads}
use Rattle.ra_item.proofs.reading.Reading.take_piece.Given as goal

abbrev pub invariant-loop-at : goal.invariant-loop-at
invariant-loop-at l = (l.at ≤ length l.piece) × (reading (Reads l.fn.out.items l.fn.self) (take l.at l.piece) ≡ Reads l.out.items l.self)

abbrev pub decreases-loop-at : goal.decreases-loop-at
decreases-loop-at l = length l.piece - l.at
