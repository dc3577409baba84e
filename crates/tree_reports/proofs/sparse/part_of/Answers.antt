use Rattle.tree_reports.proofs.Limits.{root_left}
use Rattle.tree_reports.proofs.sparse.part_of.Goals as goal

pub returns-in-LeftOut : goal.returns-in-LeftOut
returns-in-LeftOut c = root_left c.args.whole.now c.args.part c.empty.result c.is_tree.ensures c.in-LeftOut.is c.empty.ensures
