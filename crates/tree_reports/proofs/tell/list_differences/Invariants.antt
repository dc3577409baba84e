use Rattle.std.proofs.Common.{◌≡◌, ◌+◌, ◌++◌, length}
use Rattle.std.specs.Prelude.{is_some}
use Rattle.std.specs.FinMap.{get, entries}
use Rattle.node_base.specs.Tree.{blocked}
use Rattle.std.specs.List.{filter}
use Rattle.tree_reports.specs.Depths.{is_listed}
use Rattle.tree_reports.specs.Differences.{shown}
use Rattle.tree_reports.specs.Merged.{merged, telling, to_come}
use Rattle.tree_reports.proofs.tell.list_differences.Given as goal

abbrev pub invariant-loop-pair : goal.invariant-loop-pair
invariant-loop-pair l =
    telling l.fn.opens (λ p. is_some (blocked (get l.new) p)) (merged (filter (is_listed l.fn.depth) (entries l.old)) (filter (is_listed l.fn.depth) (entries l.new)))
    ≡ shown l.found.items ++ telling l.fn.opens (λ p. is_some (blocked (get l.new) p)) (to_come l.merge)

abbrev pub decreases-loop-pair : goal.decreases-loop-pair
decreases-loop-pair l = length l.merge.before.now + length l.merge.after.now
