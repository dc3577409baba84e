use Rattle.std.proofs.Common.{refl}
use Rattle.sync_core.specs.Mirror.{first_map}
use Rattle.sync_core.proofs.entry.init_entry.Goals as goal

pub returns-clause-entry : goal.returns-clause-entry
unfolding first_map
returns-clause-entry c = rw (c.of_zero.ensures, c.in_ok-props.ensures.map, c.in_ok-with_uuid.ensures.map, c.in_ok-with_url.ensures.map, c.in_ok-copied.ensures) refl
