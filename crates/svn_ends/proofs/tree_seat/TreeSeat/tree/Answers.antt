use Rattle.std.proofs.Common.{arith}
use Rattle.svn_ends.proofs.Keeping.{still_read}
use Rattle.svn_ends.proofs.tree_seat.TreeSeat.tree.Goals as goal

pub invariant_of-self : goal.invariant_of-self
invariant_of-self g c =
    record {
      read = still_read c.args.self.now.seat c.seen_tree.new.seat c.args.self.now.trees.items c.seen_tree.ensures.keeps c.args.self.now.few c.args.self.now.read;
      few = omega (arith, c.args.self.now.few, c.seen_tree.ensures.keeps.seen);
    }
