use Rattle.repo_core.proofs.Limited.{props_within, long_value}
use Rattle.repo_core.proofs.maps.insert.Goals as goal

pub returns-in_default-clause-refused : goal.returns-in_default-clause-refused
returns-in_default-clause-refused c = long_value c.args.props c.args.name c.args.value.items c.in_default.ensures.fault.1

pub returns-in-Ok-set-clause-within : goal.returns-in-Ok-set-clause-within
returns-in-Ok-set-clause-within c = props_within _ c.entries.ensures.rules
