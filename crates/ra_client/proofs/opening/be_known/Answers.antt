use Rattle.std.proofs.Common.{refl}
use Rattle.ra_client.specs.Steps.{Stopped, Went}
use Rattle.ra_client.proofs.opening.be_known.Goals as goal

pub returns-in-Ok : goal.returns-in-Ok
returns-in-Ok g c = record { opened = Went (c.log_in.new.items, c.log_in.new.out) tt c.in-Ok.ensures.known (c.take_welcome.ensures.taken, refl) }

pub returns-in-Err : goal.returns-in-Err
returns-in-Err g c = record { opened = Stopped c.in-Err.fault c.in-Err.ensures.known refl }
