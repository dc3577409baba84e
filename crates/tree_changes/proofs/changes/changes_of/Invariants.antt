use Rattle.std.proofs.Common.{◌≡◌, map, take}
use Rattle.tree_reports.specs.Differences.{shown}
use Rattle.tree_changes.specs.Changes.{change_of}
use Rattle.tree_changes.proofs.changes.changes_of.Given as goal

abbrev pub invariant-loop-difference : goal.invariant-loop-difference
invariant-loop-difference l = l.changes.items ≡ map change_of (shown (take l.difference-index l.differences))
