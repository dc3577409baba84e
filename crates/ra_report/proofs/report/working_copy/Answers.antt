use Rattle.std.proofs.Common.{◌∙◌, ap, map}
use Rattle.browse_wire.specs.Reports.{report_as}
use Rattle.ra_denial.specs.Places.{place_as}
use Rattle.ra_report.specs.Reports.{aimed, aims_denied, whole_denied}
use Rattle.ra_report.proofs.Calls.{denied_first}
use Rattle.ra_report.proofs.Targets.{aimed_comes}
use Rattle.ra_report.proofs.report.working_copy.Goals as goal

pub returns-in-Ok-clause-found : goal.returns-in-Ok-clause-found
returns-in-Ok-clause-found g c = λ x e.
    aimed_comes x (place_as c.args.place.now) c.args.target.now (map report_as c.as_slice.result.now) (map report_as c.args.report.now) _ _ c.whole.result c.in-Ok.ensures.0 (ap (map report_as) c.as_slice.ensures.value ∙ c.in-Ok.ensures.1) (c.whole.ensures.found x e)

pub returns-in-Err-clause-found : goal.returns-in-Err-clause-found
returns-in-Err-clause-found g c = λ x e.
    denied_first _ _ (aims_denied c.args.target.now (map report_as c.args.report.now)) (whole_denied x (place_as c.args.place.now) c.args.target.now (map (aimed c.args.target.now) (map report_as c.args.report.now))) c.in-Err.stop c.in-Err.ensures
