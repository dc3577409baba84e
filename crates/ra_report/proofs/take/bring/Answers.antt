use Rattle.std.proofs.Common.{arith}
use Rattle.tree_reports.specs.Reports.{content_at}
use Rattle.browse_wire.specs.Reports.{reported_as}
use Rattle.ra_serve.specs.Ports.{tree_of}
use Rattle.ra_denial.specs.Denials.{no_revision}
use Rattle.ra_report.specs.Reports.{placing_denied}
use Rattle.ra_report.specs.Shown.{shown_of}
use Rattle.ra_report.proofs.Calls.{first_stops}
use Rattle.ra_report.proofs.Takes.{shown_comes, source_comes}
use Rattle.ra_report.proofs.take.bring.Goals as goal

pub returns-in-Ok-clause-found : goal.returns-in-Ok-clause-found
returns-in-Ok-clause-found g c = λ x e.
    source_comes x (content_at c.args.report.now) (reported_as c.args.path.now) c.args.source.now _ (content_at c.bring_from.new.report) _ _ c.bring_from.result (c.in-Ok.ensures.there x e) (c.in-Ok.ensures.tree x e)
    (shown_comes (content_at c.args.report.now) c.args.path.now.path c.in-Ok.tree c.args.source.now c.shown_of-shown.result _ (content_at c.bring_from.new.report) c.bring_from.result c.shown_of-shown.ensures c.bring_from.ensures)

pub returns-in-Err-clause-found : goal.returns-in-Err-clause-found
returns-in-Err-clause-found g c = λ x e.
    let now = g.P.RepoPort.refusals c.tree_asked.new.port in
    let r = reported_as c.args.path.now in
    first_stops (g.P.RepoPort.refusals c.args.port.now) now now (no_revision x r.revision) (placing_denied (content_at c.args.report.now) r.path (tree_of x r.revision) c.args.source.now (shown_of r)) c.stopped.result (omega arith) (c.stopped.ensures x _ _ r.revision (c.in-Err.ensures.refused x e))
