-- What the tree that was reported has of a node.
use Rattle.std.specs.Prelude.{ℕ, Bool, false, List, Option, Some, None, is_some, nat_eq, if◌then◌else◌}
use Rattle.std.specs.Option.{option_map_or, option_and_then}
use Rattle.std.specs.Cmp.Lexicographic.{pointwise}
use Rattle.std.specs.FinMap as finite
use Rattle.node_base.specs.Path.{Name, Path}
use Rattle.node_base.specs.Tree.{PathMap}
use Rattle.node_base.specs.declared.node.Node.{Node}

-- a node that is a directory
abbrev pub if_dir : Node → Option Node
if_dir x = if is_some x.text then None else Some x

-- a node that is a file
abbrev pub if_file : Node → Option Node
if_file x = if is_some x.text then Some x else None

-- the directory that a tree has at a path
abbrev pub dir_in : PathMap → Path → Option Node
dir_in m p = option_and_then if_dir (finite.get m p)

-- the file that a tree has at a path
abbrev pub file_in : PathMap → Path → Option Node
file_in m p = option_and_then if_file (finite.get m p)

-- the value that a node has at a property's name
abbrev pub value_of : Option Node → Name → Option (List ℕ)
value_of x name = option_and_then (λ x. finite.get x.props name) x

-- whether a node has a property's value already; a removal gives none
abbrev pub has_already : Option Node → Name → Option (List ℕ) → Bool
has_already x name None = false
has_already x name (Some v) = option_map_or (λ w. pointwise nat_eq w v) (value_of x name) false
