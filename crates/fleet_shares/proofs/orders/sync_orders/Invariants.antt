use Rattle.std.proofs.Common.{◌≡◌, map}
use Rattle.std.specs.List.{range_with_len}
use Rattle.fleet_shares.specs.Orders.{sync_order}
use Rattle.fleet_shares.proofs.orders.sync_orders.Given as goal

abbrev pub invariant-loop-slot : goal.invariant-loop-slot
invariant-loop-slot l = l.orders.items ≡ map sync_order (range_with_len 0 l.slot)
