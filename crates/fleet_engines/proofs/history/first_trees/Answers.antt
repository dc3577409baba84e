use Rattle.std.proofs.Common.{[], ◌∷◌, ◌∙◌, ap, sym}
use Rattle.std.specs.FinMap.{same_map}
use Rattle.node_base.specs.Path.{paths_exact, paths_total}
use Rattle.node_base.specs.Tree.{new_dir}
use Rattle.path_tree.proofs.Edits.{get-leaf}
use Rattle.fleet_engines.specs.Revisions.{root_alone}
use Rattle.fleet_engines.proofs.history.first_trees.Goals as goal

pub returns : goal.returns
returns c =
    rw (c.in_ok-push.ensures.items, c.new-trees.ensures.items) (ap (λ t. t ∷ []) (same_map paths_total paths_exact c.in_ok-empty.field-0 root_alone (λ q. c.in_ok-empty.ensures q ∙ sym (get-leaf new_dir q))))
