use Rattle.std.proofs.Common.{◌≡◌, ◌≤◌, length}
use Rattle.store_share.specs.Seats.{seen_by}
use Rattle.svn_ends.specs.Seats.{AreRead, Keeps}
use Rattle.svn_ends.proofs.seen.read_trees.Given as goal

abbrev pub invariant-loop-i : goal.invariant-loop-i
invariant-loop-i g l =
    AreRead l.seat l.trees.items × (length l.trees.items ≡ l.i) × Keeps l.initial.seat l.seat × (seen_by l.seat ≡ seen_by l.initial.seat) × (length l.trees.items ≤ seen_by l.seat)
