use Rattle.std.proofs.Common.{◌≡◌, ◌≤◌, ◌+◌, ◌-◌, ℕ, Some}
use Rattle.std.specs.Io.KnownBytes.{Appends}
use Rattle.repo_core.specs.Repository.{Repository}
use Rattle.ra_serve.specs.Answers.{edits}
use Rattle.ra_serve.specs.Ports.{Stays}
use Rattle.ra_serve.specs.Tellings.{Adds}
use Rattle.ra_serve.proofs.replay.revisions.Given as goal

abbrev pub invariant-loop-number : goal.invariant-loop-number
invariant-loop-number g l =
    (written : ℕ)
    × (l.number ≡ l.fn.first + written)
    × (written ≤ l.fn.last + 1 - l.fn.first)
    × (l.number-end ≡ l.fn.last + 1)
    × ((x : Repository) → g.P.RepoPort.repository l.fn.port ≡ Some x → Appends (g.W.Write.contents l.fn.out) (g.W.Write.contents l.sent) (edits x l.fn.first written))
    × Stays (g.P.RepoPort.repository l.fn.port) (g.P.RepoPort.repository l.port) (g.P.RepoPort.is_mirror l.fn.port) (g.P.RepoPort.is_mirror l.port) (g.P.RepoPort.refusals l.fn.port) (g.P.RepoPort.refusals l.port)
    × Adds g.W.Write.contents l.fn.out l.sent
