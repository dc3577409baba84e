use Rattle.repo_core.proofs.Limited.{props_within}
use Rattle.repo_core.proofs.maps.dated.Goals as goal

pub returns-in_default-clause-within : goal.returns-in_default-clause-within
returns-in_default-clause-within c = props_within _ c.entries.ensures.rules
