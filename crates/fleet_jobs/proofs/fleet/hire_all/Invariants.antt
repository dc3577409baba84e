use Rattle.std.proofs.Common.{◌≡◌, ◌+◌, vec_len}
use Rattle.crossbeam_channel.specs.Ends.{sends_on, receives_on}
use Rattle.fleet_jobs.specs.Queue.{known_by}
use Rattle.fleet_jobs.proofs.fleet.hire_all.Given as goal

abbrev pub invariant-loop-i : goal.invariant-loop-i
invariant-loop-i g l =
    (receives_on l.from ≡ sends_on l.crew.orders)
    × (l.crew.runner.value ≡ l.initial.crew.runner.value)
    × ((known_by l.crew.seat).given ≡ (known_by l.initial.crew.seat).given)
    × ((known_by l.crew.seat).seats ≡ vec_len l.crew.threads)
    × (vec_len l.crew.threads ≡ vec_len l.initial.crew.threads + l._i)
