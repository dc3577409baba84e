use Rattle.std.proofs.Common.{◌≡◌, ◌+◌, ◌≤◌, ◌++◌, vec_len, vec_capacity}
use Rattle.std.specs.Vec.Iter.{into_iter_items, into_iter_len}
use Rattle.fleet_jobs.specs.Places.{front}
use Rattle.fleet_jobs.proofs.places.gather.Given as goal

abbrev pub invariant-loop-place : goal.invariant-loop-place
invariant-loop-place l =
    (l.room.items ++ front (into_iter_items l.place-iterator) ≡ front (into_iter_items l.initial.place-iterator))
    × (vec_len l.room + into_iter_len l.place-iterator ≤ vec_capacity l.room)
