use Rattle.std.proofs.Common.{◌∙◌, sym}
use Rattle.ra_report.specs.Trimmed.{is_shallow, reports}
use Rattle.ra_report.proofs.Trims.{none_holds, one_holds, all_stay}
use Rattle.ra_report.proofs.trim.opens_all.Goals as goal

pub loop-command-preserved : goal.loop-command-preserved
loop-command-preserved c =
    none_holds (reports is_shallow) c.args.report.now c.loop-command.command-index c.command-item.result _ c.loop-command-test.true c.command-item.is (sym c.reports_shallow.ensures ∙ c.if-reports_shallow.false) c.loop-command.invariant

pub returns-then-reports_shallow : goal.returns-then-reports_shallow
returns-then-reports_shallow c =
    one_holds (reports is_shallow) c.args.report.now c.loop-command.command-index c.command-item.result _ c.loop-command-test.true c.command-item.is (sym c.reports_shallow.ensures ∙ c.if-reports_shallow.true) c.loop-command.invariant

pub returns : goal.returns
returns c =
    all_stay (reports is_shallow) c.args.report.now c.loop-command.command-index _ c.loop-command-test.false c.loop-command.invariant
