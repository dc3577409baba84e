use Rattle.std.proofs.Common.{◌∙◌}
use Rattle.path_tree.specs.Rows.{in_row}
use Rattle.path_tree.proofs.Reaches.{past_limits}
use Rattle.path_tree.proofs.branch.Branch.exceeds.Goals as goal

pub returns : goal.returns
returns c = c.exceeds.ensures ∙ past_limits c.args.names c.args.bytes c.self.inside.node (in_row c.self.inside.children) c.self.invariant c.args.self.now c.self.view_is c.reach_in.result c.reach_in.ensures
