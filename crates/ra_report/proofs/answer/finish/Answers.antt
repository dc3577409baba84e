use Rattle.std.proofs.Common.{map}
use Rattle.uuid.specs.Text.{hyphenated_text, lower}
use Rattle.browse_wire.specs.Asks.{ask_as}
use Rattle.browse_wire.specs.Reports.{report_as}
use Rattle.ra_denial.specs.Places.{place_as}
use Rattle.ra_report.proofs.Adding.{sent_adds, refused_adds}
use Rattle.ra_report.proofs.Planning.{finishes_sent, finishes_stopped}
use Rattle.ra_report.proofs.answer.finish.Goals as goal

pub returns-in-Ok-clause-told : goal.returns-in-Ok-clause-told
returns-in-Ok-clause-told g c =
    finishes_sent g.P.RepoPort.repository g.P.RepoPort.refusals g.W.Write.contents (place_as c.args.place.now) (ask_as c.args.command.now) (map report_as c.args.report.now) c.args.port.now c.plan_of.new.port c.args.out c.in-Ok.plan c.answer.result c.in-Ok.ensures.found c.answer.ensures

pub returns-in-Err-clause-told : goal.returns-in-Err-clause-told
returns-in-Err-clause-told g c =
    finishes_stopped g.P.RepoPort.repository g.P.RepoPort.refusals g.W.Write.contents (place_as c.args.place.now) (ask_as c.args.command.now) (map report_as c.args.report.now) c.args.port.now c.plan_of.new.port c.args.out c.in-Err.stop c.refuse.result c.in-Err.ensures.found c.refuse.ensures

pub returns-in-Ok-clause-adds : goal.returns-in-Ok-clause-adds
returns-in-Ok-clause-adds g c = sent_adds g.W.Write.contents c.args.out c.answer.result c.in-Ok.plan (hyphenated_text lower c.in-Ok.plan.identity) c.answer.ensures

pub returns-in-Err-clause-adds : goal.returns-in-Err-clause-adds
returns-in-Err-clause-adds g c = refused_adds g.W.Write.contents c.args.out c.refuse.result c.in-Err.stop c.refuse.ensures
