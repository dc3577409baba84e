use Rattle.std.proofs.Common.{refl}
use Rattle.ra_report.proofs.Trims.{trim_wants}
use Rattle.ra_report.proofs.trim.trim_wanted.Goals as goal

pub returns : goal.returns
returns c =
    (refl, refl, trim_wants c.args.wanted c.args.target.now c.args.limits.now c.args.all.tree c.in_ok-share.field-0 c.in_ok-limited.limited c.in_ok-seen.seen c.in_ok-without.field-0 c.in_ok-share.ensures c.in_ok-limited.ensures c.in_ok-seen.ensures c.in_ok-without.ensures)
