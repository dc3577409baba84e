-- The paths that records settle, as a list in path order.
use Rattle.std.specs.Prelude.{◌≡◌, ◌++◌, Bool, List, [], ◌∷◌, Option, Some, None, if◌then◌else◌}
use Rattle.std.specs.Option.{option_map, option_map_or, option_and_then}
use Rattle.std.specs.List.Sorted.{IsSortedBy}
use Rattle.std.specs.Ordering.{is_lt}
use Rattle.node_base.specs.Path.{Path, path_cmp, same_path}
use Rattle.node_base.specs.Tree.{PathMap, base, source_at}
use Rattle.node_base.specs.declared.node.Node.{Node}
use Rattle.node_base.specs.declared.node.Source.{Source}
use Rattle.dump_text.specs.declared.record.NodeRecord.{NodeRecord}
use Rattle.dump_load.specs.Changes.{settles}
use Rattle.whole_texts.specs.declared.read_node.ReadNode.{ReadNode}
use Rattle.whole_texts.specs.declared.settled.Settled.{Settled}
use Rattle.whole_texts.specs.Bases.{copied, settled_at, nearest}

-- the path of a record, if it settles it
abbrev pub settled_by : NodeRecord → List Settled
settled_by r = if settles r.action then record { path = r.path; copied = copied r } ∷ [] else []

-- the paths that records settle, in their order
abbrev pub settled_in : List ReadNode → List Settled
settled_in [] = []
settled_in (n ∷ ns) = settled_by n.node ++ settled_in ns

-- what is copied to a path, where it is settled
abbrev pub copied_at : List Settled → Path → Option (Option Source)
copied_at [] p = None
copied_at (s ∷ ss) p = if same_path s.path p then Some s.copied else copied_at ss p

-- one path comes before another
abbrev pub comes_before : Path → Path → Bool
comes_before p q = is_lt (path_cmp p q)

-- in path order
abbrev pub AreSorted : List Settled → Type 0
AreSorted ss = IsSortedBy (λ s t. comes_before s.path t.path) ss

-- it is known what the last record copies to each path that records settle
abbrev pub Knows : List Settled → List NodeRecord → Type 0
Knows ss rs = (p : Path) → copied_at ss p ≡ option_map copied (settled_at rs p)

-- what a copy has at a path below it, where there is a copy
abbrev pub copied_node : List PathMap → Option Source → Path → Option Node
copied_node trees s rest = option_and_then (λ s. source_at trees s rest) s

-- what a change finds at a path
abbrev pub left_at : List PathMap → List Settled → Path → Option Node
left_at trees ss p = option_map_or (λ x. copied_node trees x.0 x.1) (nearest (copied_at ss) p) (base trees p)
