use Rattle.std.proofs.Common.{◌≡◌, ◌∙◌, None, ap, map, subst, sym}
use Rattle.browse_wire.specs.Reports.{report_as}
use Rattle.ra_denial.specs.Stops.{Decides}
use Rattle.ra_report.specs.Plans.{IsTrimmed, IsTrimmedBy}
use Rattle.ra_report.specs.Reports.{aimed}
use Rattle.ra_report.proofs.trim.trimmed.Goals as goal

pub returns-in-Ok : goal.returns-in-Ok
returns-in-Ok c =
    let is : map report_as c.as_slice.result.now ≡ map (aimed c.args.target.now) (map report_as c.args.report.now) = ap (map report_as) c.as_slice.ensures.value ∙ c.in-Ok.ensures.1 in
    subst (λ d. Decides d (IsTrimmed c.args.wanted c.args.target.now (map report_as c.args.report.now) c.args.plan) c.trimmed_by.result) (sym c.in-Ok.ensures.0)
    (subst (λ cs. Decides None (IsTrimmedBy c.args.wanted c.args.target.now cs c.args.plan) c.trimmed_by.result) is c.trimmed_by.ensures)
