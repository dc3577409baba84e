use Rattle.std.proofs.Common.{sym, ap, ◌∙◌, []}
use Rattle.std.specs.FinMap.{get}
use Rattle.path_tree.specs.Rows.{in_row}
use Rattle.path_tree.specs.JoinedLemmas.{get-joined_root}
use Rattle.path_tree.proofs.branch.Branch.node.Goals as goal

pub returns : goal.returns
returns c = ap (λ m. get m []) (sym c.self.view_is) ∙ get-joined_root c.self.inside.node (in_row c.self.inside.children)
