use Rattle.std.proofs.Common.{length}
use Rattle.path_tree.specs.Rows.{in_row}
use Rattle.path_tree.proofs.row.+seek.Given as goal

abbrev pub decreases-seek : goal.decreases-seek
decreases-seek l = length (in_row l.row.now)
