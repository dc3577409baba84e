use Rattle.std.proofs.Common.{◌≡◌, ◌≤◌, Some}
use Rattle.repo_core.specs.Repository.{Repository, props_at}
use Rattle.ra_denial.specs.Stops.{PortStays}
use Rattle.ra_browse.specs.Dates.{newest_by}
use Rattle.ra_browse.proofs.dated.newest_by.Given as goal

abbrev pub invariant-loop-number : goal.invariant-loop-number
invariant-loop-number g l = record {
  small : l.number ≤ l.fn.last;
  less : (x : Repository) → g.P.RepoPort.repository l.fn.port ≡ Some x → newest_by (props_at x.revisions) l.date l.fn.last ≡ newest_by (props_at x.revisions) l.date l.number;
  stays : PortStays g.P.RepoPort l.fn.port l.port;
}

abbrev pub decreases-loop-number : goal.decreases-loop-number
decreases-loop-number g l = l.number
