use Rattle.fleet_engines.proofs.Groups.{revisions_are_grouped}
use Rattle.fleet_engines.proofs.revisions_are_grouped.Goals as goal

pub returns : goal.returns
returns c = revisions_are_grouped
