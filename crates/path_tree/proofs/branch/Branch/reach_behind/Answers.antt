use Rattle.std.proofs.Common.{ap, ◌∙◌, arith}
use Rattle.std.specs.FinMap.{len}
use Rattle.path_tree.specs.Rows.{in_row}
use Rattle.path_tree.specs.RowLemmas.{len-joined}
use Rattle.path_tree.proofs.Reaches.{reach-behind}
use Rattle.path_tree.proofs.branch.Branch.reach_behind.Goals as goal

pub returns : goal.returns
returns c = record {
  reach = c.behind.ensures ∙ reach-behind c.args.name.now c.self.inside.node (in_row c.self.inside.children) c.self.invariant c.args.self.now c.self.view_is c.reach_in.result c.reach_in.ensures;
  rooted = omega (arith, ap len c.self.view_is, len-joined c.self.inside.node (in_row c.self.inside.children) c.self.invariant);
}
