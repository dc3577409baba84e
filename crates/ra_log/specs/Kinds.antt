-- What the changes of a revision are of.
use Rattle.std.specs.Prelude.{ℕ, ◌-◌, ◌++◌, true, List, take, drop, length, Option, None, unwrap_or, if◌then◌else◌}
use Rattle.std.specs.Option.{option_map, option_and_then}
use Rattle.node_base.specs.Limits.{fits}
use Rattle.node_base.specs.Path.{Path}
use Rattle.node_base.specs.Tree.{PathMap, kind_of}
use Rattle.node_base.specs.declared.node.NodeKind.{NodeKind}
use Rattle.node_base.specs.declared.node.NodeKind.TheVariants.{Dir}
use Rattle.dump_load.specs.Changes.{is_delete}
use Rattle.dump_load.specs.declared.change.Change.{Change}
use Rattle.path_history.specs.declared.place.Place.{Place}
use Rattle.path_history.specs.Lines.{node_at}
use Rattle.path_history.specs.Places.{place, origin}

-- what stands at a place; nothing does at a path past the limits of paths
abbrev pub kind_at : List PathMap → Place → Option NodeKind
kind_at trees a = if fits a.path then option_map kind_of (node_at trees a) else None

-- the folder of a path, and its last name
abbrev pub folder : Path → Path
folder p = take (length p - 1) p

abbrev pub last_name : Path → Path
last_name p = drop (length p - 1) p

-- a path below a place
abbrev pub below : Path → Place → Place
below r a = place a.revision (a.path ++ r)

-- what a deletion took away: what the folder had there, where the folder came from
abbrev pub kind_before : List PathMap → ℕ → List Change → Path → Option NodeKind
kind_before trees n set p = option_and_then (λ a. kind_at trees (below (last_name p) a)) (origin true set (place n (folder p)))

-- what a change of a revision's set is of: what it took away, or what stands there behind it
abbrev pub kind_found : List PathMap → ℕ → List Change → Change → Option NodeKind
kind_found trees n set c = if is_delete c.action then kind_before trees n set c.path else kind_at trees (place n c.path)

-- the same, as it is told
abbrev pub kind_told : List PathMap → ℕ → List Change → Change → NodeKind
kind_told trees n set c = unwrap_or (kind_found trees n set c) Dir
