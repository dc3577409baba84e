-- Property blocks, byte by byte and whole.
use Rattle.std.specs.Prelude.{◌≡◌, ℕ, ◌+◌, ◌-◌, ◌==◌, ◌&&◌, ◌||◌, not, nat_lt, Bool, true, false, List, [], ◌∷◌, ◌++◌, length, drop, ◌≤◌, Option, Some, None, Result, Ok, Err, if◌then◌else◌, slice_index_or}
use Rattle.std.specs.FinMap as map
use Rattle.node_base.specs.Numbers.{is_digit, number_of}
use Rattle.node_base.specs.Props.{PropMap, is_prop_name, props_fit, fits_with}
use Rattle.node_base.specs.declared.limits.TheConstants.{PROP_NAME_BYTES, PROP_VALUE_BYTES}
use Rattle.node_base.specs.declared.prop_fault.PropFault.{PropFault}
use Rattle.node_base.specs.declared.prop_fault.PropFault.TheVariants.{BadProps, TooLong, OutOfMemory}
use Rattle.node_base.specs.declared.block_part.Part.{Part}
use Rattle.node_base.specs.declared.block_part.Part.TheVariants.{Tag, KeyBlank, KeyCount, Name, NameEnd, ValueTag, ValueBlank, ValueCount, Value, ValueEnd, Ending}
use Rattle.node_base.specs.declared.block.BlockReader.{BlockReader}

-- what one byte more makes of a block: it isn't whole yet, or it is, with these properties and these names that are removed
pub data Step : Type 0 where
  Next : BlockReader → Step
  Whole : PropMap → PropMap → Step
  Refused : PropFault → Step

-- the byte belongs to the part
abbrev pub keep : BlockReader → ℕ → Step
keep r b = Next (record r { held = r.held ++ b ∷ [] })

-- the next part begins
abbrev pub go : Part → BlockReader → Step
go part r = Next (record r { part = part; held = [] })

-- only this byte may come, and the next part follows it
abbrev pub only : ℕ → ℕ → Part → BlockReader → Step
only wanted b part r = if b == wanted then go part r else Refused BadProps

-- a count is within its limit, and what it counts and an LF fit into the rest of the block
abbrev pub judged_count : ℕ → ℕ → ℕ → Step → Step
judged_count limit n left step =
    if nat_lt limit n then Refused TooLong else if nat_lt (n + 1) left then step else Refused BadProps

-- an entry begins: a property, or a name that is removed
abbrev pub begins : Bool → BlockReader → Step
begins removes r = go KeyBlank (record r { removes = removes })

-- whether no entry so far has the name
abbrev pub is_new : BlockReader → List ℕ → Bool
is_new r name = not (map.contains_key r.props name || map.contains_key r.removed name)

-- a name is removed, or awaits its value, where the properties stay within the limits with it
abbrev pub named : Bool → BlockReader → List ℕ → Step
named true r name = Next (record r { part = ValueEnd; removed = map.insert r.removed name []; held = [] })
named false r name = if fits_with r.props name then Next (record r { part = NameEnd; name = Some name; held = [] }) else Refused TooLong

-- a name fits the rule and comes once
abbrev pub name_is : BlockReader → List ℕ → Step
name_is r name =
    if nat_lt PROP_NAME_BYTES (length name)
    then Refused TooLong
    else if is_prop_name name && is_new r name
    then named r.removes r name
    else Refused BadProps

-- a value stands at the name that was read before it
abbrev pub value_at : BlockReader → Option (List ℕ) → List ℕ → Step
value_at r None value = Refused BadProps
value_at r (Some name) value =
    if nat_lt PROP_VALUE_BYTES (length value)
    then Refused TooLong
    else if props_fit (map.insert r.props name value)
    then Next (record r { part = ValueEnd; props = map.insert r.props name value; name = None; held = [] })
    else Refused TooLong

abbrev pub value_is : BlockReader → List ℕ → Step
value_is r value = value_at r r.name value

-- what follows the P of PROPS-END and its LF
abbrev pub ending : List ℕ
ending = 82 ∷ 79 ∷ 80 ∷ 83 ∷ 45 ∷ 69 ∷ 78 ∷ 68 ∷ 10 ∷ []

-- one byte at a part of a block: K, a blank, the count of the name's bytes and LF, the name, LF, V, a blank, the count of the value's bytes and LF, the value, LF; or, in a block of a delta, D, a blank, the count and LF, the name, LF; or PROPS-END and LF
abbrev pub part_step : Part → BlockReader → ℕ → Step
part_step Tag r b = if b == 75 then begins false r else if r.delta && b == 68 then begins true r else only 80 b Ending r
part_step KeyBlank r b = only 32 b KeyCount r
part_step KeyCount r b =
    if is_digit b
    then keep r b
    else if b == 10 && not (number_of r.held == 0)
    then judged_count PROP_NAME_BYTES (number_of r.held) r.left (go (Name (number_of r.held)) r)
    else Refused BadProps
part_step (Name n) r b =
    if nat_lt (length r.held + 1) n
    then keep r b
    else name_is r (r.held ++ b ∷ [])
part_step NameEnd r b = only 10 b ValueTag r
part_step ValueTag r b = only 86 b ValueBlank r
part_step ValueBlank r b = only 32 b ValueCount r
part_step ValueCount r b =
    if is_digit b
    then keep r b
    else if b == 10 && not (length r.held == 0)
    then judged_count PROP_VALUE_BYTES (number_of r.held) r.left (if number_of r.held == 0 then value_is r [] else go (Value (number_of r.held)) r)
    else Refused BadProps
part_step (Value n) r b =
    if nat_lt (length r.held + 1) n
    then keep r b
    else value_is r (r.held ++ b ∷ [])
part_step ValueEnd r b = only 10 b Tag r
part_step Ending r b =
    if b == slice_index_or ending (length r.held) 256
    then if length r.held == 8 then Whole r.props r.removed else keep r b
    else Refused BadProps

-- the announced end comes with the LF of PROPS-END, and nowhere else
abbrev pub settled : ℕ → Step → Step
settled left (Next r) = if nat_lt 1 left then Next (record r { left = left - 1 }) else Refused BadProps
settled left (Whole props removed) = if left == 1 then Whole props removed else Refused BadProps
settled left (Refused f) = Refused f

abbrev pub block_step : BlockReader → ℕ → Step
block_step r b = settled r.left (part_step r.part r b)

-- what bytes make of a block: it goes on, or it is whole and these bytes come after it, or it is refused
pub data Run : Type 0 where
  More : BlockReader → Run
  Done : PropMap → PropMap → List ℕ → Run
  Fault : PropFault → Run

abbrev pub of_step : Step → Run
of_step (Next r) = More r
of_step (Whole props removed) = Done props removed []
of_step (Refused f) = Fault f

abbrev pub one_more : Run → ℕ → Run
one_more (More r) b = of_step (block_step r b)
one_more (Done props removed rest) b = Done props removed (rest ++ b ∷ [])
one_more (Fault f) b = Fault f

abbrev pub after : Run → List ℕ → Run
after s [] = s
after s (b ∷ bs) = after (one_more s b) bs

abbrev pub run_block : BlockReader → List ℕ → Run
run_block r = after (More r)

-- a block of so many bytes begins, of a delta or whole
abbrev pub begun : Bool → ℕ → BlockReader
begun delta n = record { left = n; part = Tag; name = None; props = map.empty; held = []; delta = delta; removes = false; removed = map.empty }

abbrev pub new_block : ℕ → BlockReader
new_block = begun false

-- what a call did is the step
abbrev pub StepIs : Result Bool PropFault → BlockReader → Step → Type 0
StepIs (Ok false) new step = step ≡ Next new
StepIs (Ok true) new step = step ≡ Whole new.props new.removed
StepIs (Err OutOfMemory) new step = Unit {0}
StepIs (Err f) new step = step ≡ Refused f

-- so many bytes of a counted text were kept
abbrev pub held_more : BlockReader → List ℕ → BlockReader
held_more r s = record r { left = r.left - length s; held = r.held ++ s }

-- what calls did is the run
abbrev pub BlockIs : Result (Option ℕ) PropFault → BlockReader → List ℕ → Run → Type 0
BlockIs (Ok None) new piece run = run ≡ More new
BlockIs (Ok (Some k)) new piece run = run ≡ Done new.props new.removed (drop k piece)
BlockIs (Err OutOfMemory) new piece run = Unit {0}
BlockIs (Err f) new piece run = run ≡ Fault f

-- the bytes begin with the end of the block
abbrev pub EndsHere : BlockReader → List ℕ → Type 0
EndsHere r bytes = (10 ≤ length bytes) × (run_block r bytes ≡ Done r.props r.removed (drop 10 bytes))

-- so many bytes can be kept at once
abbrev pub MayKeep : BlockReader → ℕ → Type 0
MayKeep r n = (s more : List ℕ) → length s ≤ n → run_block r (s ++ more) ≡ run_block (held_more r s) more
