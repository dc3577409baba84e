use Rattle.std.proofs.Common.{sym}
use Rattle.node_base.proofs.NameSets.{none_out}
use Rattle.node_base.proofs.removed_names.RemovedNames.remove_from.Goals as goal

pub returns-in-None : goal.returns-in-None
returns-in-None c = none_out c.args.self.now c.args.list.now (sym (rw c.in-None.is at c.self.view_is))
