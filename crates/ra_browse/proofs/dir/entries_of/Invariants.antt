use Rattle.std.proofs.Common.{◌≡◌, ◌++◌, map, Some}
use Rattle.repo_core.specs.Repository.{Repository}
use Rattle.ra_wire.specs.Answers.{dirent_as}
use Rattle.ra_denial.specs.Stops.{PortStays}
use Rattle.ra_browse.specs.Answers.{entry_of}
use Rattle.ra_browse.proofs.dir.entries_of.Given as goal

abbrev pub invariant-loop : goal.invariant-loop
invariant-loop g l =
    ((x : Repository) → g.P.RepoPort.repository l.fn.port ≡ Some x → map dirent_as l.entries.items ++ map (entry_of x) l.children ≡ map (entry_of x) l.fn.children)
    × PortStays g.P.RepoPort l.fn.port l.port
