use Rattle.std.specs.FinMap as finite
use Rattle.ra_report.specs.Trimmed.{drops, without}
use Rattle.ra_report.proofs.Trims.{one_dropped, all_dropped}
use Rattle.ra_report.proofs.trim.without.Goals as goal

pub loop-limit-preserved : goal.loop-limit-preserved
loop-limit-preserved c =
    let full = finite.get c.args.full.now in
    one_dropped full c.loop-limit.top c.in_ok-top.top (without (drops full c.args.limits.now) (finite.get c.args.tree)) c.args.limits.now c.loop-limit.limit-index c.limit-item.result c.loop-limit-test.true c.limit-item.is c.in_ok-top.ensures c.loop-limit.invariant

pub returns : goal.returns
returns c =
    let full = finite.get c.args.full.now in
    all_dropped full c.loop-limit.top (without (drops full c.args.limits.now) (finite.get c.args.tree)) c.args.limits.now c.loop-limit.limit-index c.loop-limit-test.false c.loop-limit.invariant
