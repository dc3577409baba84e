use Rattle.std.proofs.Common.{◌≡◌, ◌≤◌, true, Some}
use Rattle.repo_core.specs.Repository.{Repository}
use Rattle.ra_item.specs.ItemStreams.{reader_of, is_spent, ahead}
use Rattle.ra_serve.specs.Tellings.{Adds}
use Rattle.ra_denial.specs.Places.{place_as}
use Rattle.ra_denial.specs.Stops.{PortStays}
use Rattle.ra_reader.specs.Standings.{ready_at}
use Rattle.ra_reader.specs.Takings.{standing_as}
use Rattle.ra_reader.proofs.Turning.{Going}
use Rattle.ra_reader.proofs.session.commands.Given as goal

abbrev pub invariant-loop : goal.invariant-loop
invariant-loop g l =
    ((x : Repository) → g.P.RepoPort.repository l.fn.port ≡ Some x → Going x (ready_at (place_as l.fn.place)) (standing_as l.here l.phase) (g.P.RepoPort.refusals l.fn.port) (g.P.RepoPort.refusals l.port) (g.W.Write.contents l.fn.out) (g.W.Write.contents l.sent) (g.I.Input.remaining (reader_of l.fn.items)) (g.I.Input.remaining (reader_of l.items)) (ahead l.fn.items) (ahead l.items))
    × PortStays g.P.RepoPort l.fn.port l.port
    × (is_spent l.items ≡ true → is_spent l.fn.items ≡ true)
    × (g.I.Input.failures (reader_of l.fn.items) ≤ g.I.Input.failures (reader_of l.items))
    × Adds g.W.Write.contents l.fn.out l.sent
