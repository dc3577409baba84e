use Rattle.std.proofs.Common.{length}
use Rattle.path_tree.specs.Rows.{in_row}
use Rattle.path_tree.proofs.row.+without_sought.Given as goal

abbrev pub decreases-without_sought : goal.decreases-without_sought
decreases-without_sought l = length (in_row l.row.now)
