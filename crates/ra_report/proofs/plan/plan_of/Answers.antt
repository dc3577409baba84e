use Rattle.std.proofs.Common.{map}
use Rattle.browse_wire.specs.Asks.{ask_as}
use Rattle.browse_wire.specs.Reports.{report_as}
use Rattle.ra_denial.specs.Places.{place_as}
use Rattle.ra_report.specs.Orders.{order_denied, revision_of, place_of, target_of, keeps}
use Rattle.ra_report.specs.Edits.{edit_denied}
use Rattle.ra_report.proofs.Calls.{denied_first}
use Rattle.ra_report.proofs.Planning.{plan_ordered}
use Rattle.ra_report.proofs.plan.plan_of.Goals as goal

pub returns-in-Ok-clause-found : goal.returns-in-Ok-clause-found
returns-in-Ok-clause-found g c = λ x e.
    plan_ordered x (place_as c.args.place.now) (ask_as c.args.command.now) (map report_as c.args.report.now) c.in-Ok.order _ _ c.plan_by.result c.in-Ok.ensures.0 c.in-Ok.ensures.1 (c.plan_by.ensures.found x e)

pub returns-in-Err-clause-found : goal.returns-in-Err-clause-found
returns-in-Err-clause-found g c = λ x e.
    let at = place_as c.args.place.now in
    let a = ask_as c.args.command.now in
    denied_first _ _ (order_denied at a) (edit_denied x at (revision_of a) (place_of at a) (target_of a) (keeps a) (map report_as c.args.report.now)) c.in-Err.stop c.in-Err.ensures
