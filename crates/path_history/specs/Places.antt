-- Places, where what stands at one came from, and which revisions touch a path.
use Rattle.std.specs.Prelude.{◌≡◌, ℕ, ◌-◌, ◌++◌, ◌||◌, Bool, false, nat_lt, List, [], Option, Some, None, IsSomeAnd, slice_get, if◌then◌else◌}
use Rattle.std.specs.Option.{option_map, option_map_or, option_and_then}
use Rattle.std.specs.List.{list_any}
use Rattle.node_base.specs.Path.{Path, same_path, is_front, rest_after}
use Rattle.node_base.specs.Limits.{fits}
use Rattle.dump_load.specs.declared.change.Change.{Change}
use Rattle.dump_load.specs.Changes.{brings, governing}
use Rattle.path_history.specs.declared.place.Place.{Place}

-- the sets of the revisions from 0 on
abbrev pub Sets : Type 0
Sets = List (List Change)

abbrev pub place : ℕ → Path → Place
place n p = record { path = p; revision = n }

-- the same path in the revision before
abbrev pub stayed : Place → Option Place
stayed a = if nat_lt 0 a.revision then Some (place (a.revision - 1) a.path) else None

-- where a change that settles a front of the place's path copies it from: what follows the front, behind the source; a source is in an earlier revision
abbrev pub copied : Change → Place → Option Place
copied c a = option_and_then (λ s. if nat_lt s.revision a.revision then option_map (λ r. place s.revision (s.path ++ r)) (rest_after c.path a.path) else None) c.source

-- where what stands at a place came from, by the set of its revision; where copies aren't crossed, what was copied came from nowhere
abbrev pub origin : Bool → List Change → Place → Option Place
origin crosses set a = option_map_or (λ c. if crosses then copied c a else None) (governing set a.path) (stayed a)

abbrev pub came_from : Bool → Sets → Place → Option Place
came_from crosses sets a = option_and_then (λ set. origin crosses set a) (slice_get sets a.revision)

-- what stands at a came from b
abbrev pub CameFrom : Bool → Sets → Place → Place → Type 0
CameFrom crosses sets a b = came_from crosses sets a ≡ Some b

-- the line of what stands at a place: the place, and where that came from, and so on
pub data Follows (crosses : Bool) (sets : Sets) : Place → Place → Type 0 where
  here : (a : Place) → Follows crosses sets a a
  back : (a b c : Place) → CameFrom crosses sets a b → Follows crosses sets b c → Follows crosses sets a c

-- a set touches a path: the root; or it has a change at the path or below it; or it adds or replaces the path, or a folder above it
abbrev pub touches : List Change → Path → Bool
touches set p = same_path p [] || list_any (λ c. is_front p c.path) set || option_map_or brings (governing set p) false

-- the set of the place's revision touches its path
abbrev pub is_touched : Sets → Place → Bool
is_touched sets a = option_map_or (λ set. touches set a.path) (slice_get sets a.revision) false

-- there is a place, and its path is past the limits of paths
abbrev pub IsPastLimits : Option Place → Type 0
IsPastLimits o = IsSomeAnd o (λ a. fits a.path ≡ false)
