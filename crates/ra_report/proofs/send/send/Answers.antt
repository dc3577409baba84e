use Rattle.uuid.specs.Text.{hyphenated_text, lower}
use Rattle.ra_report.proofs.Sending.{told_behind}
use Rattle.ra_report.proofs.send.send.Goals as goal

pub returns-in-Ok : goal.returns-in-Ok
returns-in-Ok g c =
    told_behind g.W.Write.contents c.args.plan.now (hyphenated_text lower c.args.plan.now.identity) c.args.out c.in-Ok.out c.send_edit.result c.in-Ok.ensures c.send_edit.ensures
