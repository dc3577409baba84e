use Rattle.std.proofs.Common.{drop, map}
use Rattle.browse_wire.specs.Reports.{report_as}
use Rattle.ra_report.proofs.Targets.{AreAimed}
use Rattle.ra_report.proofs.aim.aimed_all.Given as goal

abbrev pub invariant-loop-command : goal.invariant-loop-command
invariant-loop-command l =
    AreAimed l.target (map report_as l.all.items) (map report_as (drop l.command-index l.report)) (map report_as l.report)
