use Rattle.std.proofs.Common.{◌≡◌}
use Rattle.std.specs.List.{list_any}
use Rattle.node_base.specs.PathText.{pieces, pieces_left, is_long_name}
use Rattle.node_base.proofs.path.has_long_name.Given as goal

abbrev pub invariant-loop-piece : goal.invariant-loop-piece
invariant-loop-piece l = list_any is_long_name (pieces l.bytes) ≡ list_any is_long_name (pieces_left l.piece-iterator.rest)
