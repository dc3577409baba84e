use Rattle.std.proofs.Common.{◌≡◌, ◌+◌, ◌<◌, ℕ, true, get_or, length}
use Rattle.std.specs.Vec.Iter.{into_iter_items, into_iter_len}
use Rattle.crossbeam_channel.specs.Claims.{IsSeatAt}
use Rattle.crossbeam_channel.specs.Ends.{sends_on}
use Rattle.fleet_jobs.specs.Queue.{known_by}
use Rattle.fleet_jobs.proofs.Homes.{Joined}
use Rattle.fleet_jobs.proofs.crew.Crew.dismiss.Given as goal

abbrev pub invariant-loop-thread : goal.invariant-loop-thread
invariant-loop-thread g l =
    Joined (g.J.Runner.may_answer l._runner.value) (known_by l.initial.seat) (known_by l.seat) l.initial.places l.places
    × IsSeatAt (sends_on l.orders) l.seat
    × ((known_by l.seat).gives ≡ true)
    × (length (known_by l.seat).back + into_iter_len l.thread-iterator ≡ into_iter_len l.initial.thread-iterator)
    × ((k : ℕ) (d : _) → k < into_iter_len l.thread-iterator → (sends_on (get_or (into_iter_items l.thread-iterator) k d).promise.queue.value ≡ sends_on l.orders) × ((get_or (into_iter_items l.thread-iterator) k d).promise.runner.value ≡ l._runner.value) × ((get_or (into_iter_items l.thread-iterator) k d).promise.seat ≡ length (known_by l.seat).back + k))
