use Rattle.std.proofs.Common.{◌≡◌, ◌≤◌, take, Some}
use Rattle.repo_core.specs.Repository.{Repository}
use Rattle.ra_denial.specs.Stops.{PortStays}
use Rattle.ra_report.specs.Edits.{all_props}
use Rattle.ra_report.proofs.revisions.props_up_to.Given as goal

abbrev pub invariant-loop-number : goal.invariant-loop-number
invariant-loop-number g l =
    (l.number ≤ l.fn.last)
    × (l.number-end ≡ l.fn.last)
    × ((x : Repository) → g.P.RepoPort.repository l.fn.port ≡ Some x → l.all.items ≡ take l.number (all_props x))
    × PortStays g.P.RepoPort l.fn.port l.port
