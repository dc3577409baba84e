-- How deep a tree is looked at.
use Rattle.std.specs.Prelude.{Bool, true, false, List, [], ◌∷◌, Option, Some, None, is_some, if◌then◌else◌}
use Rattle.std.specs.List.{filter}
use Rattle.std.specs.Option.{option_and_then, option_map_or}
use Rattle.std.specs.FinMap as finite
use Rattle.node_base.specs.Path.{Name, Path}
use Rattle.node_base.specs.Tree.{PathMap}
use Rattle.node_base.specs.declared.node.Node.{Node}
use Rattle.tree_reports.specs.declared.depth.Depth.{Depth}
use Rattle.tree_reports.specs.declared.depth.Depth.TheVariants.{Empty, Files, Immediates, Infinity}

-- whether a node right below the root is looked at
abbrev pub takes_child : Depth → Node → Bool
takes_child Empty x = false
takes_child Files x = is_some x.text
takes_child Immediates x = true
takes_child Infinity x = true

-- whether what is further below is
abbrev pub goes_below : Depth → Bool
goes_below Empty = false
goes_below Files = false
goes_below Immediates = false
goes_below Infinity = true

-- whether a node at a path is looked at
abbrev pub is_within : Depth → Path → Node → Bool
is_within d [] x = true
is_within d (n ∷ []) x = takes_child d x
is_within d (n ∷ m ∷ p) x = goes_below d

-- what is looked at of a tree
abbrev pub within : Depth → (Path → Option Node) → Path → Option Node
within d f p = option_and_then (λ x. if is_within d p x then Some x else None) (f p)

-- the same of a listing's entry
abbrev pub is_listed : Depth → Path × Node → Bool
is_listed d e = is_within d e.0 e.1

-- a listing of what is looked at
abbrev pub listed : Depth → PathMap → List (Path × Node)
listed d m = filter (is_listed d) (finite.entries m)

-- the root's entry, where there is one
abbrev pub root_of : PathMap → List (Path × Node)
root_of m = option_map_or (λ x. ([], x) ∷ []) (finite.get m []) []

-- the entry of a child that is looked at
abbrev pub picked : Depth → Name × Node → List (Path × Node)
picked d c = if takes_child d c.1 then (c.0 ∷ [], c.1) ∷ [] else []
