use Rattle.std.proofs.Common.{ap, ◌∙◌, refl}
use Rattle.std.specs.FinMap.{get}
use Rattle.node_base.specs.Tree.{alone}
use Rattle.path_tree.proofs.Edits.{get-leaf}
use Rattle.path_tree.proofs.Fronts.{tree_of, shape-alone}
use Rattle.plain_tree.proofs.tree.Tree.empty.Goals as goal

pub returns : goal.returns
returns c = λ q. ap (λ m. get m q) c.leaf.ensures ∙ get-leaf _ q ∙ ap (λ x. alone x q) c.new_dir.ensures

pub invariant_of-result : goal.invariant_of-result
invariant_of-result c = tree_of c.leaf.result (alone c.new_dir.result) (λ q. ap (λ m. get m q) c.leaf.ensures ∙ get-leaf _ q) (shape-alone c.new_dir.result (rw c.new_dir.ensures refl))
