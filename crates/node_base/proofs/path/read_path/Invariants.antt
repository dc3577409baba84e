use Rattle.std.proofs.Common.{◌≡◌, ◌++◌, true}
use Rattle.std.specs.List.{list_all}
use Rattle.node_base.specs.Names.{is_name}
use Rattle.node_base.specs.PathText.{pieces, pieces_left}
use Rattle.node_base.proofs.path.read_path.Given as goal

abbrev pub invariant-loop-piece : goal.invariant-loop-piece
invariant-loop-piece l = record {
  read : pieces l.bytes ≡ l.names.items ++ pieces_left l.piece-iterator.rest;
  good : list_all is_name l.names.items ≡ true;
}
