use Rattle.std.proofs.Common.{refl, ◌∙◌}
use Rattle.std.specs.FinMap as finite
use Rattle.ra_report.proofs.Trims.{trim_has}
use Rattle.ra_report.proofs.trim.trim_copy.Goals as goal

pub returns : goal.returns
returns c =
    (refl, refl, trim_has c.args.wanted c.args.target.now c.args.limits.now (finite.get c.args.full.now) c.args.copy.report c.in_ok-share.field-0 c.in_ok-seen.seen c.in_ok-tree.tree c.begin.result (c.in_ok-share.ensures ∙ c.tree.ensures) c.begin.ensures c.in_ok-seen.ensures c.in_ok-tree.ensures)
