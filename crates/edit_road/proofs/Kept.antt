-- What the types of trees and of a set keep.
use Rattle.std.proofs.Common.{ℕ, zero, suc, ◌-◌, ◌≤◌, List, [], ◌∷◌, length, Option, Some, None, refl}
use Rattle.std.specs.Prelude.{IfSome, slice_get}
use Rattle.std.specs.List.{AllByRecursion}
use Rattle.std.specs.Option.{option_map_or}
use Rattle.std.specs.FinMap as finite
use Rattle.node_base.specs.Props.{IsProps}
use Rattle.node_base.specs.Tree.{PathMap, IsDirAt, alone, base, new_dir}
use Rattle.node_base.specs.declared.node.Node.{Node}
use Rattle.path_tree.specs.Nodes.{IsNode, IsSmallTree}
use Rattle.dump_load.specs.declared.change.Change.{Change}
use Rattle.edit_road.specs.Sent.{HasProps, IsSent, MayBeSent}

props_of : (o : Option Node) → IfSome o IsNode → IfSome o (λ x. IsProps x.props)
props_of None h = tt
props_of (Some x) h = h.props

nodes_of : (ts : List PathMap) → AllByRecursion IsSmallTree ts → AllByRecursion HasProps ts
nodes_of [] h = tt
nodes_of (t ∷ ts) h = (λ q. props_of (finite.get t q) (h.0.kept.nodes q), nodes_of ts h.1)

tree_at : (ts : List PathMap) (i : ℕ) → AllByRecursion IsSmallTree ts → IfSome (slice_get ts i) IsSmallTree
tree_at [] i h = tt
tree_at (t ∷ ts) zero h = h.0
tree_at (t ∷ ts) (suc i) h = tree_at ts i h.1

root_of : (ts : List PathMap) → AllByRecursion IsSmallTree ts → IsDirAt (base ts) []
root_of ts h = at (slice_get ts (length ts - 1)) (tree_at ts (length ts - 1) h)
  where
    at : (o : Option PathMap) → IfSome o IsSmallTree → IsDirAt (option_map_or finite.get o (alone new_dir)) []
    at None k = refl
    at (Some m) k = k.tree.root

-- over trees of a program a set that may be sent is one
pub sent_of : (trees : List PathMap) → length trees ≤ 65535 → AllByRecursion IsSmallTree trees → (s : List Change) → MayBeSent trees s → IsSent trees s
sent_of trees few h s may = record { numbered = few; root = root_of trees h; nodes = nodes_of trees h; bounded = may.bounded; faultless = may.faultless }
