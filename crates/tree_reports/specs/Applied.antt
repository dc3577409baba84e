-- What differences make of a tree.
use Rattle.std.specs.Prelude.{◌≡◌, Bool, true, false, ◌||◌, List, [], ◌∷◌, Option, Some, None, if◌then◌else◌}
use Rattle.std.specs.Option.{option_map}
use Rattle.std.specs.FinMap.{find}
use Rattle.node_base.specs.Path.{Name, Path, path_cmp}
use Rattle.node_base.specs.Props.{PropMap}
use Rattle.node_base.specs.declared.node.Node.{Node}
use Rattle.tree_reports.specs.declared.difference.Parts.{Parts}
use Rattle.tree_reports.specs.Differences.{Told, Removed, Added, Replaced, Changed}

-- a node apart from its number
pub record Content : Type 0 where
  pub text : Option Name
  pub props : PropMap

abbrev pub content : Node → Content
content x = record { text = x.text; props = x.props }

-- whether what stood below the path goes
abbrev pub takes_below : Option Told → Bool
takes_below None = false
takes_below (Some Removed) = true
takes_below (Some (Added y)) = false
takes_below (Some (Replaced y)) = true
takes_below (Some (Changed y parts)) = false

-- whether what stood at the path goes with what was above it
abbrev pub goes_with : (Path → Option Told) → Path → Bool
goes_with d [] = false
goes_with d (n ∷ p) = takes_below (d []) || goes_with (λ q. d (n ∷ q)) p

-- the parts that are told to differ are those of the new node
abbrev pub with_parts : Node → Parts → Content → Content
with_parts y parts c = record { text = if parts.text then y.text else c.text; props = if parts.props then y.props else c.props }

-- what stood at a path becomes what is told of it
abbrev pub becomes : Option Told → Option Content → Option Content
becomes None c = c
becomes (Some Removed) c = None
becomes (Some (Added y)) c = Some (content y)
becomes (Some (Replaced y)) c = Some (content y)
becomes (Some (Changed y parts)) c = option_map (with_parts y parts) c

-- what stands at each path after the changes
abbrev pub applied : (Path → Option Told) → (Path → Option Node) → Path → Option Content
applied d f p = becomes (d p) (if goes_with d p then None else option_map content (f p))

-- the differences make the one tree of the other
abbrev pub Make : List (Path × Told) → (Path → Option Node) → (Path → Option Node) → Type 0
Make es f g = (p : Path) → applied (λ q. find path_cmp q es) f p ≡ option_map content (g p)
