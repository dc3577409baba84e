use Rattle.std.proofs.Common.{refl}
use Rattle.ra_client.specs.Steps.{Stopped, Went}
use Rattle.ra_client.proofs.ask.ask_deltas.Goals as goal

pub returns-in-Ok : goal.returns-in-Ok
returns-in-Ok g c = record { asked = Went (c.args.items.now, c.send.new.out) tt (rw c.as_written-only.ensures at c.in-Ok.ensures.sent, refl) (c.take_deltas.ensures.taken, refl); makes = c.take_deltas.ensures.makes }

pub returns : goal.returns
returns g c = record { asked = Stopped c.in-Err.fault (rw c.as_written-only.ensures at c.in-Err.ensures.sent, refl) refl; makes = tt }
