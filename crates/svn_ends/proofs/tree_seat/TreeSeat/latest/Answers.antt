use Rattle.std.proofs.Common.{◌∙◌, arith}
use Rattle.svn_ends.proofs.Keeping.{still_read}
use Rattle.svn_ends.specs.Seats.{Keeps}
use Rattle.svn_ends.proofs.tree_seat.TreeSeat.latest.Goals as goal

pub invariant_of-self : goal.invariant_of-self
invariant_of-self g c =
    let keeps : Keeps c.args.self.now.seat c.latest.new.reader = record { seen = omega (arith, c.latest.ensures.most, c.latest.ensures.seen); known = λ n x le e. c.latest.ensures.kept n le ∙ e } in
    record {
      read = still_read c.args.self.now.seat c.latest.new.reader c.args.self.now.trees.items keeps c.args.self.now.few c.args.self.now.read;
      few = omega (arith, c.args.self.now.few, keeps.seen);
    }
