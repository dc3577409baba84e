use Rattle.std.proofs.Common.{◌∙◌, sym}
use Rattle.std.specs.FinMap as finite
use Rattle.ra_report.proofs.Trims.{drops_one}
use Rattle.ra_report.proofs.trim.without_one.Goals as goal

pub returns-then-is_dropped : goal.returns-then-is_dropped
returns-then-is_dropped c =
    drops_one (finite.get c.args.full.now) c.args.tree c.in_ok-nothing.nothing c.args.limit.now c.limit_one.result (sym c.is_dropped.ensures ∙ c.if-is_dropped.true) c.is_tree.ensures c.in_ok-nothing.ensures c.limit_one.ensures
