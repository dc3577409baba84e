use Rattle.std.proofs.Common.{◌∙◌, [], map, arith}
use Rattle.std.specs.Option.{option_or}
use Rattle.std.specs.FinMap as finite
use Rattle.node_base.specs.Path.{same_path}
use Rattle.browse_wire.specs.Reports.{report_as}
use Rattle.ra_denial.specs.Denials.{no_revision}
use Rattle.ra_denial.specs.Places.{place_as}
use Rattle.ra_report.specs.Reports.{reports_denied, reported, base_of}
use Rattle.ra_report.specs.Switches.{kept, switches_denied}
use Rattle.ra_report.proofs.Calls.{first_stops}
use Rattle.ra_report.proofs.Planning.{plan_reported}
use Rattle.ra_report.proofs.plan.plan_from.Goals as goal

pub returns-in-Ok-clause-found : goal.returns-in-Ok-clause-found
returns-in-Ok-clause-found g c = λ x e.
    let f = c.in-Ok.ensures.found x e in
    let at = place_as c.args.place.now in
    let rs = map report_as c.args.report.now in
    let o = c.args.order.now in
    plan_reported x (reported x at o.target rs) (base_of rs) o.keeps (same_path o.target []) c.args.wanted c.in-Ok.copy (reports_denied x at o.target rs) _ _ _ c.plan_with.result c.working_copy.ensures.stays.goes.later f.0 f.1 (c.plan_with.ensures.found x (c.working_copy.ensures.stays.repository ∙ e))

pub returns-in-Err-clause-found : goal.returns-in-Err-clause-found
returns-in-Err-clause-found g c = λ x e.
    let now = g.P.RepoPort.refusals c.working_copy.new.port in
    let at = place_as c.args.place.now in
    let rs = map report_as c.args.report.now in
    let o = c.args.order.now in
    let w = c.args.wanted in
    first_stops (g.P.RepoPort.refusals c.args.port.now) now now (reports_denied x at o.target rs) (option_or (switches_denied (finite.get w.tree) w.whole (kept o.keeps (reported x at o.target rs).switches)) (no_revision x w.number)) c.in-Err.stop (omega arith) (c.in-Err.ensures.found x e)
