use Rattle.std.proofs.Common.{refl}
use Rattle.ra_client.specs.Steps.{Stopped, Went}
use Rattle.ra_client.proofs.opening.say_who.Goals as goal

pub returns-in-Ok : goal.returns-in-Ok
returns-in-Ok g c = record { opened = Went (c.take_asked.new.items, c.args.out.now) c.in-Ok.asks (c.in-Ok.ensures.taken, refl) c.be_known.ensures.opened }

pub returns-in-Err : goal.returns-in-Err
returns-in-Err g c = record { opened = Stopped c.in-Err.fault (c.in-Err.ensures.taken, refl) refl }
