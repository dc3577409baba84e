-- Changes of lists of properties.
use Rattle.std.specs.Prelude.{◌≡◌, not, false, ◌++◌}
use Rattle.std.specs.FinMap as map
use Rattle.node_base.specs.Props.{PropMap, props_fit}
use Rattle.node_base.specs.declared.prop_fault.PropFault.{PropFault}
use Rattle.node_base.specs.declared.prop_fault.PropFault.TheVariants.{BadProps, TooLong, OutOfMemory}
use Rattle.node_base.specs.declared.prop_delta.PropDelta.{PropDelta}

-- what is left of a list without some names
abbrev pub kept_in : PropMap → PropMap → PropMap
kept_in removed m = map.retain_keys m (λ n. not (map.contains_key removed n))

-- a list with other properties over it
abbrev pub put_over : PropMap → PropMap → PropMap
put_over sets m = map.from_entries (map.entries sets ++ map.entries m)

-- the list that a delta makes of an old one: what it doesn't remove, and over it what it sets
abbrev pub applied : PropDelta → PropMap → PropMap
applied d m = put_over d.sets (kept_in d.removed m)

-- why a delta isn't applied: the list that it would make is past the limits, or memory ran out
abbrev pub IsDeltaFault : PropFault → PropMap → Type 0
IsDeltaFault OutOfMemory m = Unit {0}
IsDeltaFault TooLong m = props_fit m ≡ false
IsDeltaFault BadProps m = ⊥
