use Rattle.std.proofs.Common.{sym}
use Rattle.node_base.proofs.NameSets.{len_none}
use Rattle.node_base.proofs.removed_names.RemovedNames.len.Goals as goal

pub returns-in-None : goal.returns-in-None
returns-in-None c = len_none c.args.self.now (sym (rw c.in-None.is at c.self.view_is))
