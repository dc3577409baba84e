use Rattle.std.proofs.Common.{sym}
use Rattle.node_base.proofs.NameSets.{no_bytes}
use Rattle.node_base.proofs.removed_names.RemovedNames.byte_len.Goals as goal

pub returns-in-None-clause-len : goal.returns-in-None-clause-len
returns-in-None-clause-len c = no_bytes c.args.self.now (sym (rw c.in-None.is at c.self.view_is))
