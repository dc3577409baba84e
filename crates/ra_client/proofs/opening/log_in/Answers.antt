use Rattle.std.proofs.Common.{refl}
use Rattle.ra_client.specs.Steps.{Stopped, Went}
use Rattle.ra_client.proofs.opening.log_in.Goals as goal

pub returns-in-Ok : goal.returns-in-Ok
returns-in-Ok g c = record { known = rw c.if-not-asks.false (Went (c.args.items.now, c.say_nobody.new.out) tt (c.in-Ok.ensures.sent, refl) (c.take_done.ensures.taken, refl)) }

pub returns-in-Err : goal.returns-in-Err
returns-in-Err g c = record { known = rw c.if-not-asks.false (Stopped c.in-Err.fault (c.in-Err.ensures.sent, refl) refl) }
