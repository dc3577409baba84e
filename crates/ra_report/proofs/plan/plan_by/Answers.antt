use Rattle.std.proofs.Common.{map}
use Rattle.browse_wire.specs.Reports.{report_as}
use Rattle.ra_denial.specs.Places.{place_as}
use Rattle.ra_report.proofs.Planning.{plan_trimmed}
use Rattle.ra_report.proofs.plan.plan_by.Goals as goal

pub returns-in-Ok-clause-found : goal.returns-in-Ok-clause-found
returns-in-Ok-clause-found g c = λ x e.
    let f = c.in-Ok.ensures.found x e in
    let o = c.args.order.now in
    plan_trimmed x (place_as c.args.place.now) o.revision o.path o.target o.depth o.keeps (map report_as c.args.report.now) c.in-Ok.plan _ _ c.trimmed.result f.0 f.1 c.trimmed.ensures
