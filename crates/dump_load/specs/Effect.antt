-- What a set of changes makes of the trees before it, path by path.
use Rattle.std.specs.Prelude.{Bool, not, ◌&&◌, ◌||◌, List, [], length, Option, Some, None, if◌then◌else◌}
use Rattle.std.specs.Option.{option_map, option_map_or, option_and_then}
use Rattle.std.specs.List.{list_any}
use Rattle.node_base.specs.Path.{Path, same_path, is_front, rest_after}
use Rattle.node_base.specs.declared.node.Node.{Node}
use Rattle.node_base.specs.Tree.{PathMap, numbered, with_given, with_number, marked, changed_at, grafted, alone, blank, base, source_at}
use Rattle.dump_load.specs.declared.change.Change.{Change}
use Rattle.dump_load.specs.Changes.{is_delete, settles, change_at, governing}

-- what an add or a replace begins with at its path, and below it: what its source has, or a blank node
abbrev pub content : List PathMap → Change → Path → Option Node
content trees c = option_map_or (source_at trees) c.source (alone (blank c.kind))

-- what a change that settles its path brings there, and below it
abbrev pub brought : List PathMap → Change → Path → Option Node
brought trees c q = if is_delete c.action then None else content trees c q

-- what is at a path before parts and numbers are put
abbrev pub laid : List PathMap → List Change → Path → Option Node
laid trees s q = option_map_or (λ c. option_and_then (brought trees c) (rest_after c.path q)) (governing s q) (base trees q)

-- a change's properties and text where they are given
abbrev pub with_parts : Change → Node → Node
with_parts c = with_given c.text c.props

-- the parts of the change at a path
abbrev pub parted : Option Change → Node → Node
parted None x = x
parted (Some c) x = with_parts c x

-- a change numbers each front of its path, the path itself too unless it is deleted
abbrev pub numbers : Change → Path → Bool
numbers c q = is_front q c.path && not (is_delete c.action && same_path q c.path)

-- the root, and what some change numbers
abbrev pub is_numbered : List Change → Path → Bool
is_numbered s q = same_path q [] || list_any (λ c. numbers c q) s

-- what is at a path after the set
abbrev pub effect : List PathMap → List Change → Path → Option Node
effect trees s q = option_map (λ x. numbered (length trees) (is_numbered s q) (parted (change_at s q) x)) (laid trees s q)

-- what a change that settles its path leaves there, and below it
abbrev pub arrives : List PathMap → Change → Path → Option Node
arrives trees c r = option_map (λ x. if same_path r [] then with_number (length trees) (with_parts c x) else x) (brought trees c r)

-- what one change makes of what stood before it
abbrev pub stepped : List PathMap → (Path → Option Node) → Change → Path → Option Node
stepped trees f c = if settles c.action then grafted (marked f c.path (length trees)) c.path (arrives trees c) else changed_at (marked f c.path (length trees)) c.path (with_parts c)
