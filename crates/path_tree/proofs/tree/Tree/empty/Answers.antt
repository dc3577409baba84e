use Rattle.std.proofs.Common.{ap, ◌∙◌, refl}
use Rattle.std.specs.FinMap.{get}
use Rattle.std.specs.Arc.{arc_value}
use Rattle.node_base.specs.Tree.{alone}
use Rattle.path_tree.proofs.Edits.{get-leaf}
use Rattle.path_tree.proofs.Fronts.{shape-alone}
use Rattle.path_tree.proofs.Kept.{small_of, nodes-alone, new_node}
use Rattle.path_tree.proofs.tree.Tree.empty.Goals as goal

pub returns : goal.returns
returns c = λ q. ap (λ m. get m q) (c.in_ok-new.ensures.ok ∙ c.leaf.ensures) ∙ get-leaf _ q ∙ ap (λ x. alone x q) c.new_dir.ensures

pub invariant_of-result : goal.invariant_of-result
invariant_of-result c =
    small_of (arc_value c.in_ok-new.field-0) (alone c.new_dir.result) (λ q. ap (λ m. get m q) (c.in_ok-new.ensures.ok ∙ c.leaf.ensures) ∙ get-leaf _ q) (shape-alone c.new_dir.result (rw c.new_dir.ensures refl))
    (nodes-alone c.new_dir.result (rw c.new_dir.ensures new_node))
