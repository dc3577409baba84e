use Rattle.std.proofs.Common.{◌+◌, ◌*◌, ◌∷◌, ◌++◌, length}
use Rattle.std.specs.FinMap.{len}
use Rattle.path_tree.specs.Joined.{below}
use Rattle.path_tree.specs.Rows.{in_row}
use Rattle.path_tree.proofs.+alters.Given as goal

abbrev pub decreases-branch::Branch::alter : goal.decreases-branch::Branch::alter
decreases-branch::Branch::alter l = 7 * len l.self.now

abbrev pub decreases-child::Child::edited : goal.decreases-child::Child::edited
decreases-child::Child::edited l = 7 * len l.self.now.1 + 1

abbrev pub decreases-row::altered : goal.decreases-row::altered
decreases-row::altered l = 7 * length (below (in_row l.row.now)) + 2

abbrev pub decreases-child::Child::alter : goal.decreases-child::Child::alter
decreases-child::Child::alter l = 7 * len l.self.now.1 + 2

abbrev pub decreases-row::alter_beside : goal.decreases-row::alter_beside
decreases-row::alter_beside l = 7 * length (below (in_row l.before.now ++ l.here.now ∷ in_row l.behind.now)) + 3

abbrev pub decreases-row::Twig::alter_under : goal.decreases-row::Twig::alter_under
decreases-row::Twig::alter_under l = 7 * length (below l.self.now) + 4

abbrev pub decreases-row::alter_sought : goal.decreases-row::alter_sought
decreases-row::alter_sought l = 7 * length (below (in_row l.row.now)) + 5

abbrev pub decreases-row::alter_in : goal.decreases-row::alter_in
decreases-row::alter_in l = 7 * length (below (in_row l.row.now)) + 6
