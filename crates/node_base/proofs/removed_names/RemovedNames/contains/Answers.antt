use Rattle.std.proofs.Common.{sym}
use Rattle.node_base.proofs.NameSets.{none_there}
use Rattle.node_base.proofs.removed_names.RemovedNames.contains.Goals as goal

pub returns-in-None : goal.returns-in-None
returns-in-None c = none_there c.args.self.now c.args.name.now (sym (rw c.in-None.is at c.self.view_is))
