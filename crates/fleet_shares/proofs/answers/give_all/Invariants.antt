use Rattle.std.proofs.Common.{◌≡◌, ◌+◌, ◌≤◌, ◌++◌, List, map, vec_len, vec_capacity}
use Rattle.std.specs.List.{AllZip}
use Rattle.std.specs.Vec.Iter.{into_iter_items, into_iter_len}
use Rattle.fleet_jobs.specs.declared.order.Order.{Order}
use Rattle.fleet_jobs.specs.declared.order.Ticket.{Ticket}
use Rattle.fleet_shares.specs.Given.{waiting_in, IsDue}
use Rattle.fleet_shares.proofs.answers.give_all.Given as goal

abbrev pub invariant-loop-order : goal.invariant-loop-order
invariant-loop-order g l =
    ((done : List Order) × (done ++ into_iter_items l.order-iterator ≡ into_iter_items l.initial.order-iterator) × AllZip (IsDue (g.J.Runner.may_answer l.own)) done l.dues.items)
    × (map (λ (t : Ticket). t.order) l.fleet.accepted ≡ waiting_in l.dues.items)
    × (l.fleet.runner ≡ l.initial.fleet.runner)
    × (vec_len l.dues + into_iter_len l.order-iterator ≡ into_iter_len l.initial.order-iterator)
    × (into_iter_len l.initial.order-iterator ≤ vec_capacity l.dues)
