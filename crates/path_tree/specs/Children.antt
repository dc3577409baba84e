-- The children of a folder: what stands one name below its path.
use Rattle.std.specs.Prelude.{List, [], ◌∷◌, map, Option, Some, None, if◌then◌else◌}
use Rattle.std.specs.Option.{option_map_or}
use Rattle.std.specs.List.{flat_map}
use Rattle.std.specs.FinMap as finite
use Rattle.node_base.specs.Path.{Name, Path, same_name}
use Rattle.node_base.specs.Tree.{PathMap}
use Rattle.node_base.specs.declared.node.Node.{Node}
use Rattle.path_tree.specs.declared.children.ChildNode.{ChildNode}

-- the name of a path that is a folder's path and one name more
abbrev pub name_in : Path → Path → Option Name
name_in [] (n ∷ []) = Some n
name_in (d ∷ ds) (n ∷ ns) = if same_name d n then name_in ds ns else None
name_in _ _ = None

-- an entry by its name alone, where it lies right in a folder
abbrev pub named_in : Path → Path × Node → List (Name × Node)
named_in p e = option_map_or (λ n. (n, e.1) ∷ []) (name_in p e.0) []

-- the entries of a tree that lie right in a folder, each by its name alone, in the order of the names
abbrev pub children_of : Path → PathMap → List (Name × Node)
children_of p m = flat_map (named_in p) (finite.entries m)

-- children without where they lie in memory
abbrev pub shown_children : List ChildNode → List (Name × Node)
shown_children = map (λ c. (c.name.now, c.node.now))
