use Rattle.std.proofs.Common.{refl}
use Rattle.ra_client.specs.Steps.{Stopped, Went}
use Rattle.ra_client.proofs.opening.greet.Goals as goal

pub returns-in-Ok : goal.returns-in-Ok
returns-in-Ok g c = record { opened = Went (c.args.items.now, c.say_hello.new.out) tt (c.in-Ok.ensures.sent, refl) c.say_who.ensures.opened }

pub returns-in-Err : goal.returns-in-Err
returns-in-Err g c = record { opened = Stopped c.in-Err.fault (c.in-Err.ensures.sent, refl) refl }
