-- What property blocks are, by their spelling, apart from any order of reading.
use Rattle.std.specs.Prelude.{◌≡◌, ℕ, ◌<◌, ◌≤◌, Bool, true, false, List, [], ◌∷◌, ◌++◌, length}
use Rattle.std.specs.FinMap as map
use Rattle.node_base.specs.Numbers.{is_digit, all_bytes, number_of}
use Rattle.node_base.specs.Entries.{Entries}
use Rattle.node_base.specs.Props.{PropMap, is_prop_name, props_fit}
use Rattle.node_base.specs.declared.limits.TheConstants.{PROP_NAME_BYTES, PROP_VALUE_BYTES}

-- digits spell a number, with leading zeros or without
pub record Spells (digits : List ℕ) (n : ℕ) : Type 0 where
  pub some : 0 < length digits
  pub digits_only : all_bytes is_digit digits ≡ true
  pub number : number_of digits ≡ n

-- K, a blank, the count of the name's bytes, the name, V, a blank, the count of the value's bytes, the value: each count, name and value with its LF
abbrev pub property : List ℕ → List ℕ → List ℕ → List ℕ → List ℕ
property k name v value = 75 ∷ 32 ∷ (k ++ 10 ∷ (name ++ 10 ∷ 86 ∷ 32 ∷ (v ++ 10 ∷ (value ++ 10 ∷ []))))

-- PROPS-END and LF
abbrev pub block_end : List ℕ
block_end = 80 ∷ 82 ∷ 79 ∷ 80 ∷ 83 ∷ 45 ∷ 69 ∷ 78 ∷ 68 ∷ 10 ∷ []

-- D, a blank, the count of the name's bytes, the name: the count and the name with its LF
abbrev pub removal : List ℕ → List ℕ → List ℕ
removal k name = 68 ∷ 32 ∷ (k ++ 10 ∷ (name ++ 10 ∷ []))

-- an entry of a block: a name with its value, or a name that is removed
pub data BlockEntry : Type 0 where
  Sets : List ℕ → List ℕ → BlockEntry
  Removes : List ℕ → BlockEntry

-- bytes are a block of these entries, in this order; only a block of a delta removes names
abbrev pub IsBlock : Bool → List ℕ → List BlockEntry → Type 0
IsBlock delta bytes [] = bytes ≡ block_end
IsBlock delta bytes (Sets name value ∷ es) = (k v rest : List ℕ) × Spells k (length name) × Spells v (length value) × IsBlock delta rest es × (bytes ≡ property k name v value ++ rest)
IsBlock delta bytes (Removes name ∷ es) = (k rest : List ℕ) × (delta ≡ true) × Spells k (length name) × IsBlock delta rest es × (bytes ≡ removal k name ++ rest)

-- a name that may stand behind others: it fits the rule and the limit, and no entry before it has it
pub record IsNewName (props removed : PropMap) (name : List ℕ) : Type 0 where
  pub rule : is_prop_name name ≡ true
  pub short : length name ≤ PROP_NAME_BYTES
  pub unset : map.contains_key props name ≡ false
  pub unremoved : map.contains_key removed name ≡ false

-- a property that may stand behind others: its name may, its value fits the limit, and all properties are within the limits together
pub record MayFollow (props removed : PropMap) (name value : List ℕ) : Type 0 where
  pub new : IsNewName props removed name
  pub small : length value ≤ PROP_VALUE_BYTES
  pub fit : props_fit (map.insert props name value) ≡ true

-- entries that may stand behind others, one after the other: names may be removed as many as there are
abbrev pub MayStand : PropMap → PropMap → List BlockEntry → Type 0
MayStand props removed [] = Unit {0}
MayStand props removed (Sets name value ∷ es) = MayFollow props removed name value × MayStand (map.insert props name value) removed es
MayStand props removed (Removes name ∷ es) = IsNewName props removed name × MayStand props (map.insert removed name []) es

-- the map with the properties of further entries
abbrev pub with_all : PropMap → List BlockEntry → PropMap
with_all props [] = props
with_all props (Sets name value ∷ es) = with_all (map.insert props name value) es
with_all props (Removes name ∷ es) = with_all props es

-- the removed names, each with an empty value, with those of further entries
abbrev pub without_all : PropMap → List BlockEntry → PropMap
without_all removed [] = removed
without_all removed (Sets name value ∷ es) = without_all removed es
without_all removed (Removes name ∷ es) = without_all (map.insert removed name []) es

-- the properties that entries set, in their order
abbrev pub set_in : List BlockEntry → Entries
set_in [] = []
set_in (Sets name value ∷ es) = (name, value) ∷ set_in es
set_in (Removes name ∷ es) = set_in es

-- the names that they remove, in their order
abbrev pub removed_in : List BlockEntry → Entries
removed_in [] = []
removed_in (Sets name value ∷ es) = removed_in es
removed_in (Removes name ∷ es) = (name, []) ∷ removed_in es

-- the entries of a whole list
abbrev pub all_set : Entries → List BlockEntry
all_set [] = []
all_set (p ∷ ps) = Sets p.0 p.1 ∷ all_set ps
