use Rattle.std.proofs.Common.{◌≡◌, drop}
use Rattle.std.specs.FinMap as map
use Rattle.tree_reports.specs.Sparse.{with_limits}
use Rattle.tree_reports.proofs.sparse.limit_all.Given as goal

abbrev pub invariant-loop-limit : goal.invariant-loop-limit
invariant-loop-limit l =
    with_limits (map.get l.top) (map.get l.whole) (drop l.limit-index l.limits) ≡ with_limits (map.get l.fn.tree) (map.get l.whole) l.limits
