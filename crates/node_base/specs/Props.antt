-- Property names, values and maps.
use Rattle.std.specs.Prelude.{◌≡◌, ℕ, ◌≤◌, Bool, true, IfSome, ◌&&◌, not, ◌==◌, nat_le, nat_lt, nat_eq, List, [], ◌++◌, length, codes, Result, Ok, Err, if◌then◌else◌}
use Rattle.std.specs.List.{starts_with}
use Rattle.std.specs.Str.{is_utf8}
use Rattle.std.specs.FinMap.{FinMap, code}
use Rattle.std.specs.FinMap as map
use Rattle.std.specs.Coded.{Coded}
use Rattle.node_base.specs.Path.{Name, name_cmp, coded_name}
use Rattle.node_base.specs.Numbers.{is_nil, all_bytes}
use Rattle.node_base.specs.declared.limits.TheConstants.{PROPS, PROP_NAME_BYTES, PROP_VALUE_BYTES, SYNC_PROPS}
use Rattle.node_base.specs.declared.prop_fault.PropFault.{PropFault}
use Rattle.node_base.specs.declared.prop_fault.PropFault.TheVariants.{BadProps, TooLong, OutOfMemory}

-- values by name, in the byte order of the names
abbrev pub PropMap : Type 0
PropMap = FinMap name_cmp (List ℕ)

abbrev pub coded_props : Coded PropMap
coded_props = code coded_name coded_name

-- a byte that a property's name may have: no control character of ASCII
abbrev pub is_prop_byte : ℕ → Bool
is_prop_byte b = nat_le 32 b && not (b == 127)

-- the rule of property names
abbrev pub is_prop_name : Name → Bool
is_prop_name name = not (is_nil name) && all_bytes is_prop_byte name && is_utf8 name

-- what bytes are as a property's name: first the limit, then the rule
abbrev pub prop_name_read : List ℕ → Result Name PropFault
prop_name_read bytes = if nat_lt PROP_NAME_BYTES (length bytes) then Err TooLong else if is_prop_name bytes then Ok bytes else Err BadProps

-- whether a name begins with svn:sync-
abbrev pub is_sync : Name → Bool
is_sync name = starts_with nat_eq name (codes "svn:sync-")

-- the properties whose names begin with svn:sync-
abbrev pub sync_part : PropMap → PropMap
sync_part m = map.retain_keys m is_sync

-- the other properties
abbrev pub without_sync : PropMap → PropMap
without_sync m = map.retain_keys m (λ n. not (is_sync n))

-- copied properties, beside a mirror's own whose names begin with svn:sync-
abbrev pub copied_beside : PropMap → PropMap → PropMap
copied_beside own copied = map.from_entries (map.entries (sync_part own) ++ map.entries (without_sync copied))

-- at most 256 properties, and beside them at most 16 whose names begin with svn:sync-
abbrev pub props_fit : PropMap → Bool
props_fit m = nat_le (map.len (without_sync m)) PROPS && nat_le (map.len (sync_part m)) SYNC_PROPS

-- whether the map stays within the limits with a value at the name
abbrev pub fits_with : PropMap → Name → Bool
fits_with m name = props_fit (map.insert m name [])

-- a map of properties: each name fits the rule and the limit, each value the limit, and all together the limits
pub record IsProps (m : PropMap) : Type 0 where
  pub each : (q : Name) → IfSome (map.get m q) (λ v. (is_prop_name q ≡ true) × (length q ≤ PROP_NAME_BYTES) × (length v ≤ PROP_VALUE_BYTES))
  pub fit : props_fit m ≡ true

-- the fault of a call is the one that is said, but for memory
abbrev pub IsFault : {T : Type 0} → PropFault → Result T PropFault → Type 0
IsFault OutOfMemory said = Unit {0}
IsFault f said = said ≡ Err f
