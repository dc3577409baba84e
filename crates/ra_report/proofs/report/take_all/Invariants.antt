use Rattle.std.proofs.Common.{◌≡◌, drop, map, Some}
use Rattle.tree_reports.specs.Reports.{content_at}
use Rattle.browse_wire.specs.Reports.{report_as}
use Rattle.repo_core.specs.Repository.{Repository}
use Rattle.ra_denial.specs.Places.{place_as}
use Rattle.ra_denial.specs.Stops.{PortStays}
use Rattle.ra_report.specs.Reports.{having}
use Rattle.ra_report.proofs.Later.{IsLeft}
use Rattle.ra_report.proofs.report.take_all.Given as goal

abbrev pub invariant-loop-command : goal.invariant-loop-command
invariant-loop-command g l = record {
  left : (x : Repository) → g.P.RepoPort.repository l.fn.port ≡ Some x → IsLeft x (place_as l.place) l.target (having (content_at l.report) l.switches.items) (map report_as (drop l.command-index l.rest)) (having (content_at l.fn.report) l.fn.switches.items) (map report_as l.rest);
  stays : PortStays g.P.RepoPort l.fn.port l.port;
}
