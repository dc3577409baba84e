use Rattle.std.proofs.Common.{◌≡◌, drop, map}
use Rattle.std.specs.List.{list_any}
use Rattle.browse_wire.specs.Reports.{report_as}
use Rattle.ra_report.specs.Trimmed.{is_shallow, reports}
use Rattle.ra_report.proofs.trim.opens_all.Given as goal

abbrev pub invariant-loop-command : goal.invariant-loop-command
invariant-loop-command l =
    list_any (reports is_shallow) (map report_as (drop l.command-index l.report)) ≡ list_any (reports is_shallow) (map report_as l.report)
