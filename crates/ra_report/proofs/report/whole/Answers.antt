use Rattle.std.proofs.Common.{◌∙◌, ap, map}
use Rattle.browse_wire.specs.Reports.{report_as}
use Rattle.ra_denial.specs.Places.{place_as}
use Rattle.ra_report.proofs.Later.{reported_comes}
use Rattle.ra_report.proofs.report.whole.Goals as goal

pub returns-in-Ok-clause-found : goal.returns-in-Ok-clause-found
returns-in-Ok-clause-found g c = λ x e.
    let f = c.in-Ok.ensures.found x e in
    reported_comes x (place_as c.args.place.now) c.args.target.now (report_as c.in-Some.first.now) (map report_as c.in-Some.rest.now) (map report_as c.args.report.now) _ _ _ c.in-Ok.copy c.go_on.result (ap (map report_as) c.in-Some.ensures.cases.0) c.begun.ensures.stays.goes.later f.0 f.1 (c.go_on.ensures.found x (c.begun.ensures.stays.repository ∙ e))
