use Rattle.std.proofs.Common.{sym, ◌∙◌}
use Rattle.browse_wire.specs.Reports.{report_as}
use Rattle.ra_history.proofs.Sharing.{pushed}
use Rattle.ra_report.specs.Reports.{aimed}
use Rattle.ra_report.proofs.Targets.{aimed_behind}
use Rattle.ra_report.proofs.aim.push_aimed.Goals as goal

pub returns : goal.returns
returns c =
    (c.in-Ok.ensures.0, aimed_behind c.args.target.now c.args.all.now.items c.push.new.self.items c.in-Ok.aimed (aimed c.args.target.now (report_as c.args.command.now)) (pushed c.push.result _ _ _ c.push.ensures.items (sym c.is_err.ensures.value ∙ c.if-is_err.false)) c.in-Ok.ensures.1)
