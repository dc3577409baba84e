use Rattle.std.proofs.Common.{◌≡◌}
use Rattle.crossbeam_channel.specs.Ends.{sends_on}
use Rattle.fleet_jobs.specs.Queue.{known_by, tickets}
use Rattle.fleet_jobs.proofs.crew.Crew.call_off.Given as goal

abbrev pub invariant-loop-i : goal.invariant-loop-i
invariant-loop-i g l =
    (sends_on l.self.orders ≡ sends_on l.initial.self.orders)
    × (l.self.threads ≡ l.initial.self.threads)
    × (l.self.runner.value ≡ l.initial.self.runner.value)
    × (tickets (known_by l.self.seat).given ≡ tickets (known_by l.initial.self.seat).given)
    × ((known_by l.self.seat).seats ≡ (known_by l.initial.self.seat).seats)
