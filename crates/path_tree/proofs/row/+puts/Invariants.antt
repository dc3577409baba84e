use Rattle.std.proofs.Common.{◌+◌, ◌*◌, ◌∷◌, ◌++◌, length}
use Rattle.path_tree.specs.Rows.{in_row}
use Rattle.path_tree.proofs.row.+puts.Given as goal

abbrev pub decreases-put_beside : goal.decreases-put_beside
decreases-put_beside l = 4 * length (in_row l.before.now ++ l.here.now ∷ in_row l.behind.now)

abbrev pub decreases-Twig::put_under : goal.decreases-Twig::put_under
decreases-Twig::put_under l = 4 * length l.self.now + 1

abbrev pub decreases-put_own : goal.decreases-put_own
decreases-put_own l = 4 * length (in_row l.row.now) + 2

abbrev pub decreases-put_in : goal.decreases-put_in
decreases-put_in l = 4 * length (in_row l.row.now) + 3
