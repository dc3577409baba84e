use Rattle.std.proofs.Common.{◌∙◌, map, arith}
use Rattle.std.specs.Option.{option_or}
use Rattle.browse_wire.specs.Reports.{report_as}
use Rattle.ra_serve.specs.Answers.{asked}
use Rattle.ra_serve.specs.Ports.{tree_of}
use Rattle.ra_denial.specs.Places.{place_as}
use Rattle.ra_report.specs.Orders.{wanted_denied, wanted_in}
use Rattle.ra_report.specs.Reports.{reports_denied, reported}
use Rattle.ra_report.specs.Switches.{kept, switches_denied}
use Rattle.ra_report.proofs.Calls.{first_stops}
use Rattle.ra_report.proofs.Planning.{plan_wanted}
use Rattle.ra_report.proofs.plan.plan_for.Goals as goal

pub returns-in-Ok-clause-found : goal.returns-in-Ok-clause-found
returns-in-Ok-clause-found g c = λ x e.
    let f = c.in-Ok.ensures.found x e in
    let o = c.args.order.now in
    plan_wanted x (place_as c.args.place.now) o.revision o.path o.target o.keeps (map report_as c.args.report.now) c.in-Ok.wanted _ _ _ c.plan_from.result c.look_up.ensures.stays.goes.later f.0 f.1 (c.plan_from.ensures.found x (c.look_up.ensures.stays.repository ∙ e))

pub returns-in-Err-clause-found : goal.returns-in-Err-clause-found
returns-in-Err-clause-found g c = λ x e.
    let now = g.P.RepoPort.refusals c.look_up.new.port in
    let o = c.args.order.now in
    let at = place_as c.args.place.now in
    let rs = map report_as c.args.report.now in
    first_stops (g.P.RepoPort.refusals c.args.port.now) now now (wanted_denied x o.revision o.path o.target) (option_or (reports_denied x at o.target rs) (switches_denied (wanted_in x o.revision o.path o.target) (tree_of x (asked x o.revision)) (kept o.keeps (reported x at o.target rs).switches))) c.in-Err.stop (omega arith) (c.in-Err.ensures.found x e)
