use Rattle.std.proofs.Common.{◌≡◌, ◌≤◌, ◌-◌, length, drop}
use Rattle.dump_text.specs.Streams.{reading, Reads}
use Rattle.dump_text.proofs.state.ReadState.take_piece.Given as goal

abbrev pub invariant-loop-at : goal.invariant-loop-at
invariant-loop-at l = (l.at ≤ length l.piece) × (reading (Reads l.out.items l.self) (drop l.at l.piece) ≡ reading (Reads l.fn.out.items l.fn.self) l.piece)

abbrev pub decreases-loop-at : goal.decreases-loop-at
decreases-loop-at l = length l.piece - l.at
