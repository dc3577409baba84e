use Rattle.std.specs.FinMap as map
use Rattle.tree_reports.specs.Sparse.{with_limits}
use Rattle.tree_reports.proofs.Limits.{one_limited, all_limited}
use Rattle.tree_reports.proofs.sparse.limit_all.Goals as goal

pub loop-limit-preserved : goal.loop-limit-preserved
loop-limit-preserved c =
    let whole = map.get c.args.whole.now in
    one_limited c.loop-limit.top c.in_ok-top.top whole (with_limits (map.get c.args.tree) whole c.args.limits.now) c.args.limits.now c.loop-limit.limit-index c.limit-item.result c.loop-limit-test.true c.limit-item.is c.in_ok-top.ensures c.loop-limit.invariant

pub returns : goal.returns
returns c =
    let whole = map.get c.args.whole.now in
    all_limited c.loop-limit.top whole (with_limits (map.get c.args.tree) whole c.args.limits.now) c.args.limits.now c.loop-limit.limit-index c.loop-limit-test.false c.loop-limit.invariant
