use Rattle.repo_core.proofs.Limited.{props_within}
use Rattle.repo_core.proofs.maps.with_value.Goals as goal

pub returns-in_ok-remove-in-None-clause-within : goal.returns-in_ok-remove-in-None-clause-within
returns-in_ok-remove-in-None-clause-within c = props_within _ c.entries.ensures.rules
