use Rattle.fleet_engines.proofs.Behind.{records_dont_matter}
use Rattle.fleet_engines.proofs.records_dont_matter.Goals as goal

pub returns : goal.returns
returns c = records_dont_matter
