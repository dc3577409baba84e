use Rattle.std.proofs.Common.{length}
use Rattle.path_tree.specs.Rows.{in_row}
use Rattle.path_tree.proofs.row.+with.Given as goal

abbrev pub decreases-with : goal.decreases-with
decreases-with l = length (in_row l.row.now)
