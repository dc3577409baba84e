use Rattle.std.proofs.Common.{refl}
use Rattle.ra_client.specs.Steps.{Stopped, Went}
use Rattle.ra_client.proofs.Taking.{given_made}
use Rattle.ra_client.proofs.ask.take_delta_changes.Goals as goal

pub returns-in-Ok : goal.returns-in-Ok
returns-in-Ok g c = record { taken = Went c.take_set_of_deltas.new.items c.in-Ok.applied c.in-Ok.ensures.taken c.take_end.ensures.taken; makes = given_made {g = g.I.Input} c.args.trees.now c.in-Ok.applied c.args.props c.take_set_of_deltas.new.items c.take_end.new.items c.take_end.result c.take_end.ensures.taken c.in-Ok.ensures.makes }

pub returns-in-Err : goal.returns-in-Err
returns-in-Err g c = record { taken = Stopped c.in-Err.fault c.in-Err.ensures.taken refl; makes = tt }
