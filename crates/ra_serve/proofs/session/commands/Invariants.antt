use Rattle.ra_serve.specs.Outputs.{items_of}
use Rattle.std.proofs.Common.{◌≡◌, ◌≤◌, true, Some}
use Rattle.repo_core.specs.Repository.{Repository}
use Rattle.ra_item.specs.ItemStreams.{reader_of, is_spent, ahead}
use Rattle.ra_serve.specs.Tellings.{Adds, GoesOn}
use Rattle.ra_serve.proofs.Turning.{Going}
use Rattle.ra_serve.proofs.session.commands.Given as goal

abbrev pub invariant-loop : goal.invariant-loop
invariant-loop g l =
    ((x : Repository) → g.P.RepoPort.repository l.fn.port ≡ Some x → Going (g.P.RepoPort.is_mirror l.fn.port) x (g.P.RepoPort.refusals l.fn.port) (g.P.RepoPort.refusals l.port) (g.W.Write.contents l.fn.out) (g.W.Write.contents l.sent) (g.P.RepoPort.repository l.port) (g.I.Input.remaining (reader_of (items_of l.fn.items))) (g.I.Input.remaining (reader_of (items_of l.items))) (ahead (items_of l.fn.items)) (ahead (items_of l.items)))
    × GoesOn g.P.RepoPort.refusals g.P.RepoPort.is_mirror l.fn.port l.port
    × (is_spent (items_of l.items) ≡ true → is_spent (items_of l.fn.items) ≡ true)
    × (g.I.Input.failures (reader_of (items_of l.fn.items)) ≤ g.I.Input.failures (reader_of (items_of l.items)))
    × g.W.HandsOn.is_handed_on l.sent
    × Adds g.W.Write.contents l.fn.out l.sent
