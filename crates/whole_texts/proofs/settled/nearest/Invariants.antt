use Rattle.std.proofs.Common.{◌≡◌, ℕ, ◌<◌, ◌≤◌, length, take, None}
use Rattle.whole_texts.specs.Settled.{copied_at}
use Rattle.whole_texts.proofs.settled.nearest.Given as goal

abbrev pub invariant-loop-above : goal.invariant-loop-above
invariant-loop-above l = (l.above ≤ length l.path) × ((j : ℕ) → l.above ≤ j → j < length l.path → copied_at l.settled (take j l.path) ≡ None)

abbrev pub decreases-loop-above : goal.decreases-loop-above
decreases-loop-above l = l.above
