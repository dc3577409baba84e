-- Properties that are read up to one past a limit.
use Rattle.std.specs.Prelude.{◌≡◌, ℕ, Bool, true, false, List, Option, Some, None, is_none}
use Rattle.std.specs.Option.{option_map, option_map_or, option_and_then}
use Rattle.std.specs.FinMap as finite
use Rattle.ra_item.specs.Items.{Item, Items, End, Then}
use Rattle.node_base.specs.Path.{Name}
use Rattle.node_base.specs.Props.{PropMap}
use Rattle.ra_wire.specs.Params.{parts_in, text_in, list_in, prop_name_in}
use Rattle.ra_wire.specs.Answers.{short_value, with_property, one_more}
use Rattle.ra_wire.specs.declared.fault.WireFault.{WireFault}
use Rattle.ra_wire.specs.declared.fault.WireFault.TheVariants as wire
use Rattle.ra_wire.specs.declared.props_fault.PropsFault.{PropsFault}
use Rattle.ra_wire.specs.declared.props_fault.PropsFault.TheVariants as fault

-- ( name value ), whatever the value's length
abbrev pub named_text : Item → Option (Name × List ℕ)
named_text item = option_and_then (λ xs. option_and_then (λ n. option_map (λ t. (n.0, t.0)) (text_in n.1)) (prop_name_in xs)) (parts_in item)

-- properties with one more, where its value and all of them are within the limits
abbrev pub with_text : PropMap → Name × List ℕ → Option PropMap
with_text m e = option_and_then (λ v. with_property m (e.0, v)) (short_value e.1)

-- whether an item is a property, but one past a limit
abbrev pub is_past : PropMap → Item → Bool
is_past m item = option_map_or (λ e. is_none (one_more m item)) (named_text item) false

-- whether the first item that can't be put among those before it is so
abbrev pub stops_past : PropMap → Items → Bool
stops_past m End = false
stops_past m (Then x xs) = option_map_or (λ n. stops_past n xs) (one_more m x) (is_past m x)

-- the same of the list that stands in front
abbrev pub props_past : Items → Bool
props_past xs = option_map_or (λ l. stops_past finite.empty l.0) (list_in xs) false

-- nothing was read: memory ran out, a limit was passed, or another thing stands there
abbrev pub NotWithin : {T : Type 0} → Option T → Bool → PropsFault → Type 0
NotWithin read past fault.OutOfMemory = Unit {0}
NotWithin read past fault.TooLong = (read ≡ None) × (past ≡ true)
NotWithin read past fault.BadShape = (read ≡ None) × (past ≡ false)

-- the same where only a limit can be passed
abbrev pub IsPast : {T : Type 0} → Option T → PropsFault → Type 0
IsPast read fault.OutOfMemory = Unit {0}
IsPast read fault.TooLong = read ≡ None
IsPast read fault.BadShape = ⊥

abbrev pub of_wire : WireFault → PropsFault
of_wire wire.OutOfMemory = fault.OutOfMemory
of_wire f = fault.BadShape
