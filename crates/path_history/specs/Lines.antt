-- Laws of lines and of what sets touch.
use Rattle.std.specs.Prelude.{◌≡◌, ◌<◌, ◌⊎◌, Bool, true, false, List, length, Option, None, Some, IfSome, IsSomeAnd}
use Rattle.std.specs.Option.{option_and_then}
use Rattle.std.specs.List.{slice_get}
use Rattle.std.specs.FinMap as map
use Rattle.node_base.specs.Path.{Path}
use Rattle.node_base.specs.Tree.{PathMap, base}
use Rattle.node_base.specs.declared.node.Node.{Node}
use Rattle.dump_load.specs.declared.change.Change.{Change}
use Rattle.dump_load.specs.Changes.{change_at}
use Rattle.dump_load.specs.Effect.{effect}
use Rattle.path_history.specs.declared.place.Place.{Place}
use Rattle.path_history.specs.Places.{Sets, place, origin, Follows, touches}

-- what stands at a place
abbrev pub node_at : List PathMap → Place → Option Node
node_at trees a = option_and_then (λ m. map.get m a.path) (slice_get trees a.revision)

-- a node has the text and the properties of what stood somewhere
abbrev pub IsLike : Node → Option Node → Type 0
IsLike x o = IsSomeAnd o (λ y. (x.text ≡ y.text) × (x.props ≡ y.props))

-- what stands at a path after a set that has no change of it is like what stood at the place that it came from
abbrev pub ComesFrom : Type 0
ComesFrom =
    (trees : List PathMap) (set : List Change) (p : Path) (b : Place) → 0 < length trees → change_at set p ≡ None → origin true set (place (length trees) p) ≡ Some b
    → IfSome (effect trees set p) (λ x. IsLike x (node_at trees b))

-- what stands at a path that a set doesn't touch is like what stood there before: no text and no properties change in a revision that isn't told
abbrev pub Untouched : Type 0
Untouched = (trees : List PathMap) (set : List Change) (p : Path) → touches set p ≡ false → IfSome (effect trees set p) (λ x. IsLike x (base trees p))

-- where copies aren't crossed, the line is a front of the line that crosses them
abbrev pub StrictIsFront : Type 0
StrictIsFront =
    (sets : Sets) (a b : Place) → Follows true sets a b
    → Follows false sets a b ⊎ ((c : Place) → Follows false sets a c → b.revision < c.revision)

-- and it has nothing else
abbrev pub StrictIsWithin : Type 0
StrictIsWithin = (sets : Sets) (a b : Place) → Follows false sets a b → Follows true sets a b

-- a line has one place in a revision at most
abbrev pub OneAtEach : Type 0
OneAtEach = (crosses : Bool) (sets : Sets) (a b c : Place) → Follows crosses sets a b → Follows crosses sets a c → b.revision ≡ c.revision → b ≡ c
