use Rattle.std.proofs.Common.{refl}
use Rattle.ra_client.specs.Steps.{Stopped, Went}
use Rattle.ra_client.proofs.opening.introduce.Goals as goal

pub returns-in-Ok : goal.returns-in-Ok
returns-in-Ok g c = record { opened = Went (c.take_greeting.new.items, c.args.out.now) tt (c.in-Ok.ensures.taken, refl) c.greet.ensures.opened }

pub returns-in-Err : goal.returns-in-Err
returns-in-Err g c = record { opened = Stopped c.in-Err.fault (c.in-Err.ensures.taken, refl) refl }
