-- Children one after the other, out of the rows of a search tree.
use Rattle.std.specs.Prelude.{List, [], ◌∷◌, ◌++◌}
use Rattle.std.specs.Option.{option_map_or}
use Rattle.std.specs.List.{flat_map}
use Rattle.std.specs.FinMap as finite
use Rattle.node_base.specs.Path.{Name}
use Rattle.node_base.specs.Tree.{PathMap}
use Rattle.node_base.specs.declared.node.Node.{Node}
use Rattle.path_tree.specs.declared.row.Waiting.{Waiting}
use Rattle.path_tree.specs.Rows.{in_row}

-- a child by its name and its top node
abbrev pub top : Name × PathMap → List (Name × Node)
top c = option_map_or (λ x. (c.0, x) ∷ []) (finite.get c.1 []) []

abbrev pub tops : List (Name × PathMap) → List (Name × Node)
tops cs = flat_map top cs

-- the children that are to come, where the last that waits comes first
abbrev pub to_come : List Waiting → List (Name × PathMap)
to_come [] = []
to_come (w ∷ ws) = to_come ws ++ w.child.now ∷ in_row w.behind.now
