use Rattle.std.proofs.Common.{arith}
use Rattle.store_share.specs.Seats.{known_by}
use Rattle.svn_ends.proofs.Keeping.{first_read, on_ok, still_read}
use Rattle.svn_ends.proofs.tree_seat.TreeSeat.replay.Goals as goal

pub invariant_of-self-2 : goal.invariant_of-self-2
invariant_of-self-2 g c =
    record {
      read = still_read c.read_trees.new.seat c.seen_replay.new.seat c.read_trees.new.trees.items c.seen_replay.ensures.keeps c.read_trees.ensures.few c.read_trees.ensures.read;
      few = omega (arith, c.read_trees.ensures.few, c.seen_replay.ensures.keeps.seen);
    }

pub returns-clause-trees : goal.returns-clause-trees
returns-clause-trees g c =
    let read = still_read c.read_trees.new.seat c.seen_replay.new.seat c.read_trees.new.trees.items c.seen_replay.ensures.keeps c.read_trees.ensures.few c.read_trees.ensures.read in
    on_ok c.seen_replay.result (first_read (known_by c.seen_replay.new.seat) c.read_trees.new.trees.items c.args.number read c.in_ok-read_trees.ensures.enough)
