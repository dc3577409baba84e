use Rattle.std.proofs.Common.{refl}
use Rattle.ra_client.specs.Steps.{Stopped, Went}
use Rattle.ra_client.proofs.ask.take_delta_revision.Goals as goal

pub returns-in-Ok : goal.returns-in-Ok
returns-in-Ok g c = record { taken = Went c.take_revprops.new.items c.in-Ok.props c.in-Ok.ensures.taken c.take_delta_changes.ensures.taken; makes = c.take_delta_changes.ensures.makes }

pub returns-in-Err : goal.returns-in-Err
returns-in-Err g c = record { taken = Stopped c.in-Err.fault c.in-Err.ensures.taken refl; makes = tt }
