use Rattle.std.proofs.Common.{◌+◌, refl}
use Rattle.fleet_shares.proofs.Ordering.{orders_more}
use Rattle.fleet_shares.proofs.orders.sync_orders.Goals as goal

pub loop-slot-preserved : goal.loop-slot-preserved
loop-slot-preserved c =
    orders_more c.loop-slot.orders.items c.push.new.self.items c.loop-slot.slot (c.loop-slot.slot + 1) c.in_ok-order_of.field-0 c.in_ok-push.ensures.items c.in_ok-order_of.ensures refl c.loop-slot.invariant
