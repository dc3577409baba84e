use Rattle.std.proofs.Common.{◌≡◌, ◌+◌, ◌≤◌, ◌++◌, vec_len, vec_capacity}
use Rattle.std.specs.Vec.Iter.{into_iter_items, into_iter_len}
use Rattle.fleet_shares.specs.Closing.{brings_at}
use Rattle.fleet_shares.specs.Told.{stands, tells}
use Rattle.fleet_shares.proofs.told.tell_all.Given as goal

abbrev pub invariant-loop-refusal : goal.invariant-loop-refusal
invariant-loop-refusal g l =
    (l.told.items ++ tells (brings_at l.brings) (vec_len l.told) (stands (vec_len l.told) (into_iter_items l.refusal-iterator) l.stores) (into_iter_items l.rest)
    ≡ tells (brings_at l.brings) 0 (stands 0 (into_iter_items l.initial.refusal-iterator) l.stores) (into_iter_items l.initial.rest))
    × (vec_len l.told + into_iter_len l.refusal-iterator ≤ vec_capacity l.told)
