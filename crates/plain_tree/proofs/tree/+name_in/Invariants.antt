use Rattle.std.proofs.Common.{length}
use Rattle.plain_tree.proofs.tree.+name_in.Given as goal

abbrev pub decreases-name_in : goal.decreases-name_in
decreases-name_in l = length l.folder.now
