-- The orders that bring each mirror up.
use Rattle.std.specs.Prelude.{ℕ, ◌+◌, ◌++◌, false, codes}
use Rattle.std.specs.Fmt.{decimal}
use Rattle.fleet_jobs.specs.declared.order.Order.{Order}
use Rattle.fleet_jobs.specs.declared.order.Work.TheVariants.{Sync}

-- to bring the mirror of a slot up, without stealing its lock, under a token with the slot's number from 1 up
abbrev pub sync_order : ℕ → Order
sync_order slot = record { mirror = slot; work = Sync false; token = codes "fleet-" ++ decimal (slot + 1) }
