use Rattle.std.proofs.Common.{◌≡◌, ◌++◌, drop, map}
use Rattle.std.specs.List.{flat_map}
use Rattle.browse_wire.specs.Reports.{report_as}
use Rattle.ra_report.specs.Trimmed.{limit_in}
use Rattle.ra_report.proofs.trim.limits_by.Given as goal

abbrev pub invariant-loop-command : goal.invariant-loop-command
invariant-loop-command l =
    l.all.items ++ flat_map (limit_in l.wanted l.sparse) (map report_as (drop l.command-index l.report)) ≡ flat_map (limit_in l.wanted l.sparse) (map report_as l.report)
