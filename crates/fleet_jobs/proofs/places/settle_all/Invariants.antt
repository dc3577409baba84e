use Rattle.std.proofs.Common.{◌≡◌}
use Rattle.std.specs.Vec.Iter.{into_iter_items}
use Rattle.fleet_jobs.specs.Places.{put_all}
use Rattle.fleet_jobs.proofs.places.settle_all.Given as goal

abbrev pub invariant-loop-outcome : goal.invariant-loop-outcome
invariant-loop-outcome l = put_all l.places (into_iter_items l.outcome-iterator) ≡ put_all l.initial.places (into_iter_items l.initial.outcome-iterator)
