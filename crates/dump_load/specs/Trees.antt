-- The tree that a set of changes makes, as one map.
use Rattle.std.specs.Prelude.{◌≡◌, List, [], ◌∷◌, ◌++◌, map, length, ◌-◌, drop, Option, None}
use Rattle.std.specs.Option.{option_map_or}
use Rattle.std.specs.List.{slice_get, flat_map}
use Rattle.std.specs.FinMap as finite
use Rattle.node_base.specs.Path.{Path}
use Rattle.node_base.specs.declared.node.Node.{Node}
use Rattle.node_base.specs.declared.node.Source.{Source}
use Rattle.node_base.specs.Tree.{PathMap}
use Rattle.dump_load.specs.declared.change.Change.{Change}
use Rattle.dump_load.specs.Effect.{effect}
use Rattle.dump_load.specs.Faults.{fault}

-- the nodes that f has at these paths
abbrev pub nodes_at : (Path → Option Node) → List Path → PathMap
nodes_at f [] = finite.empty
nodes_at f (p ∷ ps) = option_map_or (finite.insert (nodes_at f ps) p) (f p) (nodes_at f ps)

-- the paths of the newest tree
abbrev pub base_paths : List PathMap → List Path
base_paths trees = [] ∷ option_map_or finite.keys (slice_get trees (length trees - 1)) []

-- where a copy to a path has what stands in a tree below its source
abbrev pub copied_paths : Path → Source → PathMap → List Path
copied_paths p s m = map (λ k. p ++ drop (length s.path) k) (finite.keys m)

-- the path of a change, and where its copy has something
abbrev pub paths_of : List PathMap → Change → List Path
paths_of trees c = c.path ∷ option_map_or (λ s. option_map_or (copied_paths c.path s) (slice_get trees s.revision) []) c.source []

-- the tree that a set makes of the trees before it
unfoldable pub effect_tree : List PathMap → List Change → PathMap
effect_tree trees s = nodes_at (effect trees s) (base_paths trees ++ flat_map (paths_of trees) s)

-- the set has no fault over the trees before it, and makes the tree
pub record Makes (trees : List PathMap) (set : List Change) (tree : PathMap) : Type 0 where
  pub faultless : fault trees set ≡ None
  pub effect : tree ≡ effect_tree trees set
