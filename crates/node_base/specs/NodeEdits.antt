-- What is done to the properties and the text of one node.
use Rattle.std.specs.Prelude.{ℕ, List, ◌++◌, Option, Some, None, if◌then◌else◌}
use Rattle.std.specs.Option.{option_map}
use Rattle.std.specs.FinMap as map
use Rattle.node_base.specs.Path.{Name}
use Rattle.node_base.specs.Props.{PropMap, props_fit}
use Rattle.node_base.specs.declared.node.Node.{Node}
use Rattle.node_base.specs.declared.prop_fault.PropFault.{PropFault}
use Rattle.node_base.specs.declared.prop_fault.PropFault.TheVariants.{TooLong, OutOfMemory}

-- a property map with another value at a name, or with none there
abbrev pub prop_put : Name → Option (List ℕ) → PropMap → PropMap
prop_put name None m = map.remove m name
prop_put name (Some v) m = map.insert m name v

-- why it isn't put there: the limits of a map, or else memory
abbrev pub put_fault : Name → Option (List ℕ) → PropMap → PropFault
put_fault name None m = OutOfMemory
put_fault name (Some v) m = if props_fit (map.insert m name v) then OutOfMemory else TooLong

-- a node with another value at a property's name, or with none there
abbrev pub with_prop : Name → Option (List ℕ) → Node → Node
with_prop name value x = record { text = x.text; props = prop_put name value x.props; changed = x.changed }

-- a node with a piece behind its text so far
abbrev pub with_piece : List ℕ → Node → Node
with_piece piece x = record { text = option_map (λ t. t ++ piece) x.text; props = x.props; changed = x.changed }
