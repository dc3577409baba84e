use Rattle.std.proofs.Common.{refl}
use Rattle.ra_client.specs.Steps.{Stopped, Went}
use Rattle.ra_client.proofs.ask.ask_latest.Goals as goal

pub returns-in-Ok : goal.returns-in-Ok
returns-in-Ok g c = record { asked = Went (c.args.items.now, c.send.new.out) tt (c.in-Ok.ensures.sent, refl) (c.take_latest.ensures.taken, refl) }

pub returns-in-Err : goal.returns-in-Err
returns-in-Err g c = record { asked = Stopped c.in-Err.fault (c.in-Err.ensures.sent, refl) refl }
